-- Marks, and the fields of a header.
use Rattle.std.proofs.Common.{◌≡◌, ◌+◌, ◌-◌, ◌<◌, ℕ, zero, suc, true, false, List, [], ◌∷◌, ◌++◌, length, take, drop, Option, Some, None, refl, sym, ap, arith, inl, inr, ◌∙◌, add-one}
use Rattle.std.specs.Prelude.{unwrap_or, option_map, nat_le}
use Rattle.std.proofs.lemmas.List.{take_all, length-drop}
use Rattle.std.proofs.lemmas.Bool.Decides.{nat_tests}
use Rattle.csv.specs.Reading.{is_bom, strip_bom}
use Rattle.csv.specs.Records.{field_at}
use Rattle.std.proofs.Common.{Bor}
use Rattle.df_csv.specs.Header.{starts_with_mark, without_marks}
use Rattle.std.proofs.lemmas.Bool.{cases_Bool, false≢true}

mark3 : (a b c : ℕ) (rest : List ℕ) → starts_with_mark (a ∷ b ∷ c ∷ rest) ≡ is_bom a b c
mark3 a b c rest = let t : nat_le 3 (length (a ∷ b ∷ c ∷ rest)) ≡ true = grind (arith, nat_tests) in rw t refl

pub marks_more : (xs : List ℕ) → starts_with_mark xs ≡ true → without_marks (drop 3 xs) ≡ without_marks xs
unfolding without_marks
marks_more [] h = absurd (false≢true h)
marks_more (a ∷ []) h = absurd (false≢true h)
marks_more (a ∷ b ∷ []) h = absurd (false≢true h)
marks_more (a ∷ b ∷ c ∷ rest) h = let e = sym (mark3 a b c rest) ∙ h in rw e refl

pub marks_end : (xs : List ℕ) → starts_with_mark xs ≡ false → xs ≡ without_marks xs
unfolding without_marks
marks_end [] h = refl
marks_end (a ∷ []) h = refl
marks_end (a ∷ b ∷ []) h = refl
marks_end (a ∷ b ∷ c ∷ rest) h = let e = sym (mark3 a b c rest) ∙ h in rw e refl

-- the reader's own test for one mark finds none
pub strip_none : (xs : List ℕ) → strip_bom (without_marks xs) ≡ without_marks xs
unfolding without_marks strip_bom
strip_none [] = refl
strip_none (a ∷ []) = refl
strip_none (a ∷ b ∷ []) = refl
strip_none (a ∷ b ∷ c ∷ rest) = elim (cases_Bool (is_bom a b c)) [
  | inl is ↦ rw is (strip_none rest)
  | inr isnt ↦ rw isnt (rw isnt refl)
]

pub take_field : (fs : List (List ℕ)) (i : ℕ) → i < length fs → take (i + 1) fs ≡ take i fs ++ (unwrap_or (field_at fs i) [] ∷ [])
unfolding field_at
take_field [] i h = absurd (omega arith)
take_field (f ∷ fs) zero h = refl
take_field (f ∷ fs) (suc i) h = rw add-one (ap (λ r. f ∷ r) (rw add-one at (take_field fs i (omega arith))))

-- `&xs[3..]`
pub drop_rest : (xs : List ℕ) → take (length xs - 3) (drop 3 xs) ≡ drop 3 xs
drop_rest xs = take_all (length xs - 3) (drop 3 xs) (omega (arith, length-drop {A = ℕ}))

pub unwrap_now : (o : Option (Bor (List ℕ))) (d : Bor (List ℕ)) → (unwrap_or o d).now ≡ unwrap_or (option_map (λ (b : Bor (List ℕ)). b.now) o) d.now
unwrap_now None d = refl
unwrap_now (Some b) d = refl
