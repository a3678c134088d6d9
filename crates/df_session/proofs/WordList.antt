-- The words of a record, one after another.
use Rattle.std.proofs.Common.{◌≡◌, ◌+◌, ◌∙◌, ℕ, zero, suc, Bor, List, [], ◌∷◌, Option, Some, None, length, drop, refl, ap, sym, subst, arith}
use Rattle.std.specs.Prelude.{IfSome, option_map}
use Rattle.std.proofs.lemmas.Iterator.{YieldsList}
use Rattle.std.proofs.lemmas.Iterator.Consumers.{YieldsList-from_shown}
use Rattle.csv.specs.Records.{field_at, fields_of}
use Rattle.csv.specs.declared.record.StringRecordIter.{StringRecordIter}

none-left : (fs : List (List ℕ)) (i : ℕ) → None ≡ field_at fs i → length (drop i fs) ≡ 0
unfolding field_at
none-left [] zero h = refl
none-left [] (suc i) h = refl
none-left (f ∷ fs) zero h = cc
none-left (f ∷ fs) (suc i) h = none-left fs i h

next-left : (fs : List (List ℕ)) (i : ℕ) (w : List ℕ) → Some w ≡ field_at fs i → drop i fs ≡ w ∷ drop (suc i) fs
unfolding field_at
next-left [] i w h = cc
next-left (f ∷ fs) zero w h = cc
next-left (f ∷ fs) (suc i) w h = next-left fs i w h

-- a step of an iterator over a record's words
abbrev pub next-word : StringRecordIter → Option (Bor (List ℕ)) → StringRecordIter → Type 0
next-word a r b =
    (b.row ≡ a.row) × (option_map (λ s. s.now) r ≡ field_at (fields_of a.row.now) a.at) × IfSome r (λ _. b.at ≡ a.at + 1)

-- the words that are left
abbrev words-left : StringRecordIter → List (List ℕ)
words-left s = drop s.at (fields_of s.row.now)

one-less : (s t : StringRecordIter) (w : Bor (List ℕ)) → next-word s (Some w) t → words-left s ≡ w.now ∷ words-left t
one-less s t w h =
    let at : t.at ≡ suc s.at = omega (arith, h.2) in
    next-left (fields_of s.row.now) s.at w.now h.1
    ∙ ap (λ ws. w.now ∷ ws)
    (sym (ap (λ i. drop i (fields_of t.row.now)) at ∙ ap (λ (r : Bor _). drop (suc s.at) (fields_of r.now)) h.0))

pub record-words : (s : StringRecordIter) (fs : List (List ℕ)) → words-left s ≡ fs → YieldsList next-word (λ w. w.now) s fs
record-words s fs e =
    subst (YieldsList next-word (λ w. w.now) s) e
    (YieldsList-from_shown next-word (λ w. w.now) words-left (λ s t h. none-left (fields_of s.row.now) s.at h.1) (λ s w t h. one-less s t w h) s)
