-- Two writes in turn.
use Rattle.std.proofs.Common.{◌≡◌, ℕ, ◌+◌, ◌-◌, ◌≤◌, List, ◌++◌, length, take, drop, Option, Some, None, refl, arith, append_assoc}
use Rattle.std.specs.Io.KnownBytes.{Appends}
use Rattle.std.proofs.Math.Seq.{take-add}
use Rattle.std.proofs.lemmas.List.{take_all, length-drop}

pub appends_more : (a b c : Option (List ℕ)) (x y z : List ℕ) → Appends a b x → Appends b c y → x ++ y ≡ z → Appends a c z
appends_more None b c x y z p q e = tt
appends_more (Some a) None c x y z p q e = absurd p
appends_more (Some a) (Some b) None x y z p q e = absurd q
appends_more (Some a) (Some b) (Some c) x y z p q e = rw (q, p, ← e, append_assoc) refl

-- what is left of a text, as the range from a place on
pub range_rest : (at : ℕ) (t : List ℕ) → take (length t - at) (drop at t) ≡ drop at t
range_rest at t = take_all (length t - at) (drop at t) (omega (arith, length-drop {A = ℕ}))

pub front_more : (at n : ℕ) (t : List ℕ) → take at t ++ take n (take (length t - at) (drop at t)) ≡ take (at + n) t
front_more at n t = rw (range_rest, take-add at n t) refl

pub front_within : (at n : ℕ) (t : List ℕ) → at ≤ length t → n ≤ length (take (length t - at) (drop at t)) → at + n ≤ length t
front_within at n t h b = let e = rw range_rest at b in omega (arith, length-drop {A = ℕ})
