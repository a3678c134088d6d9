-- The first rows of a table, and what another has at their tags.
use Rattle.std.proofs.Common.{◌≡◌, ◌∙◌, ◌∷◌, [], ◌+◌, ◌++◌, ◌<◌, ℕ, Bool, true, false, List, ap, arith, cond, count_by, get_or, inl, inr, length, map, min, refl, sym, take}
use Rattle.std.proofs.lemmas.Bool.{cases_lt}
use Rattle.std.proofs.lemmas.List.{map-append, take_all, take_more}
use Rattle.std.proofs.lemmas.List.Sums.{count_by_more_no, count_by_more_yes}

-- the first of a list, where it is as long as that at the most
pub take_least : {X : Type 0} (xs : List X) (n most : ℕ) → n ≡ length xs → take (min n most) xs ≡ take most xs
take_least xs n most long = elim (cases_lt n most) [
  | inl few ↦
      let same : min n most ≡ n = omega (arith, few) in
      ap (λ k. take k xs) same ∙ (take_all n xs (omega (arith, long)) ∙ sym (take_all most xs (omega (arith, long, few))))
  | inr many ↦
      let same : min n most ≡ most = omega (arith, many) in
      ap (λ k. take k xs) same
]

-- one of them more
pub found_more :
    {X Y : Type 0} (f : X → Y) (xs : List X) (i : ℕ) (d : X) (old new : List Y) (y : Y) → i < length xs → old ≡ map f (take i xs) → y ≡ f (get_or xs i d) →
    new ≡ old ++ y ∷ [] → new ≡ map f (take (i + 1) xs)
found_more f xs i d old new y lt inv is n = rw (n, is, inv, take_more xs i d lt, map-append) refl

-- one more that passes a test, or not
pub counted_more :
    {X : Type 0} (p : X → Bool) (xs : List X) (i : ℕ) (d : X) (b : Bool) → i < length xs → p (get_or xs i d) ≡ b →
    count_by p (take (i + 1) xs) ≡ count_by p (take i xs) + cond b 1 0
counted_more p xs i d true lt is = count_by_more_yes p xs i d lt is
counted_more p xs i d false lt is = let same = count_by_more_no p xs i d lt is in omega (arith, same)
