-- The fields of a text in UTF-8 are texts: a byte that does not join the field at hand is ASCII.
use Rattle.std.proofs.Common.{◌≡◌, ◌+◌, ◌<◌, ℕ, zero, suc, Bool, true, false, List, [], ◌∷◌, ◌++◌, length, take, drop, get_or, Option, Some, None, refl, ap, arith, inl, inr, ◌⊎◌, add-one, append_assoc, eqb, subst}
use Rattle.std.specs.Prelude.{unwrap_or, if◌then◌else◌, ◌||◌, ◌≢◌}
use Rattle.std.specs.Str.{IsUtf8}
use Rattle.std.proofs.lemmas.Bool.{cases_Bool, false≢true}
use Rattle.std.proofs.lemmas.Bool.Decides.{nat_tests}
use Rattle.std.proofs.lemmas.List.{append-nil}
use Rattle.std.proofs.lemmas.Option.{same_Some}
use Rattle.std.proofs.lemmas.Str.{IsUtf8-nil, IsUtf8-take, IsUtf8-drop, IsUtf8-append, IsCharBoundary-before_ascii, IsCharBoundary-after_ascii}
use Rattle.csv.specs.Machine.{Read, next_record, in_field, start_field, start_record, step, ends_at_end}
use Rattle.csv.specs.Reading.{default_config, records, records_from, records_next}
use Rattle.csv.specs.Records.{AllText, field_at}
use Rattle.csv.specs.declared.parser.Action.{Action}
use Rattle.csv.specs.declared.parser.Action.TheVariants as act
use Rattle.csv.specs.declared.parser.State.{State}
use Rattle.csv.specs.declared.parser.State.TheVariants as st
use Rattle.df_csv.specs.Records.{EveryText, FieldRows}

-- the reader is in no comment, which the default configuration does not know
abbrev pub no_comment : State → Bool
no_comment st.InComment = false
no_comment _ = true

take_seam : (xs ys : List ℕ) → take (length xs) (xs ++ ys) ≡ xs
take_seam [] ys = refl
take_seam (x ∷ xs) ys = ap (λ r. x ∷ r) (take_seam xs ys)

drop_seam : (xs : List ℕ) (c : ℕ) (ys : List ℕ) → drop (length xs + 1) (xs ++ c ∷ ys) ≡ ys
drop_seam [] c ys = refl
drop_seam (x ∷ xs) c ys = rw add-one (rw add-one at (drop_seam xs c ys))

at_seam : (xs : List ℕ) (c : ℕ) (ys : List ℕ) → get_or (xs ++ c ∷ ys) (length xs) 0 ≡ c
at_seam [] c ys = refl
at_seam (x ∷ xs) c ys = at_seam xs c ys

long_seam : (xs : List ℕ) (c : ℕ) (ys : List ℕ) → length xs < length (xs ++ c ∷ ys)
long_seam [] c ys = omega arith
long_seam (x ∷ xs) c ys = let h = long_seam xs c ys in omega arith

-- a text cut at an ASCII byte
pub front_text : (xs : List ℕ) (c : ℕ) (ys : List ℕ) → IsUtf8 (xs ++ c ∷ ys) → c < 128 → IsUtf8 xs
front_text xs c ys h small =
    let b = IsCharBoundary-before_ascii (xs ++ c ∷ ys) (length xs) (long_seam xs c ys) (rw (at_seam xs c ys) small) in
    rw (take_seam xs (c ∷ ys)) at (IsUtf8-take (xs ++ c ∷ ys) (length xs) h b)

pub rest_text : (xs : List ℕ) (c : ℕ) (ys : List ℕ) → IsUtf8 (xs ++ c ∷ ys) → c < 128 → IsUtf8 ys
rest_text xs c ys h small =
    let b = IsCharBoundary-after_ascii (xs ++ c ∷ ys) (length xs) h (long_seam xs c ys) (rw (at_seam xs c ys) small) in
    rw (drop_seam xs c ys) at (IsUtf8-drop (xs ++ c ∷ ys) (length xs + 1) h b)

-- a step joins the byte to the field or took an ASCII byte, and goes to no comment
abbrev Fine : ℕ → State × Action → Type 0
Fine c p = ((p.1 ≡ act.Copy) ⊎ (c < 128)) × (no_comment p.0 ≡ true)

fine_if : (c : ℕ) (b : Bool) (x y : State × Action) → (b ≡ true → Fine c x) → Fine c y → Fine c (if b then x else y)
fine_if c true x y f g = f refl
fine_if c false x y f g = g

small : (c n : ℕ) → eqb c n ≡ true → n < 128 → c < 128
small c n h k = grind (arith, nat_tests)

small_end : (c : ℕ) → (eqb c 13 || eqb c 10) ≡ true → c < 128
small_end c h = elim (cases_Bool (eqb c 13)) [
  | inl is ↦ small c 13 is (omega arith)
  | inr isnt ↦ small c 10 (rw isnt at h) (omega arith)
]

plain_end : (b : Bool) → no_comment (if b then st.AfterCr else st.StartRecord) ≡ true
plain_end true = refl
plain_end false = refl

fine_in : (c : ℕ) → Fine c (in_field default_config c)
fine_in c =
    fine_if c (eqb c 44) _ _ (λ h. (inr (small c 44 h (omega arith)), refl))
    (fine_if c (eqb c 13 || eqb c 10) _ _ (λ h. (inr (small_end c h), plain_end (eqb c 13))) (inl refl, refl))

fine_start : (c : ℕ) → Fine c (start_field default_config c)
fine_start c = fine_if c (eqb c 34) _ _ (λ h. (inr (small c 34 h (omega arith)), refl)) (fine_in c)

fine_record : (c : ℕ) → Fine c (start_record default_config c)
fine_record c = fine_if c (eqb c 13 || eqb c 10) _ _ (λ h. (inr (small_end c h), refl)) (fine_start c)

fine : (s : State) (c : ℕ) → no_comment s ≡ true → Fine c (step default_config s c)
fine st.StartRecord c h = fine_record c
fine st.StartField c h = fine_start c
fine st.InField c h = fine_in c
fine st.InQuoted c h = fine_if c (eqb c 34) _ _ (λ h. (inr (small c 34 h (omega arith)), refl)) (inl refl, refl)
fine st.InEscape c h = (inl refl, refl)
fine st.AfterQuote c h = fine_if c (eqb c 34) _ _ (λ h. (inl refl, refl)) (fine_in c)
fine st.InComment c h = absurd (false≢true h)
fine st.AfterCr c h = fine_if c (eqb c 10) _ _ (λ h. (inr (small c 10 h (omega arith)), refl)) (fine_record c)

all_text_push : (fs : List (List ℕ)) (f : List ℕ) → AllText fs → IsUtf8 f → AllText (fs ++ f ∷ [])
unfolding AllText
all_text_push [] f h t = (t, tt)
all_text_push (g ∷ fs) f h t = (h.0, all_text_push fs f h.1 t)

-- what a read of a text leaves: fields that are texts, no comment, and a text
abbrev Good : Read → Type 0
Good p = AllText p.0 × (no_comment p.1 ≡ true) × IsUtf8 p.2

-- the field at hand and the bytes to come are one text, at each step
abbrev Reads : List ℕ → Type 0
Reads xs = (s : State) (f : List (List ℕ)) (x : List ℕ) (p : Read) → no_comment s ≡ true → AllText f → IsUtf8 (x ++ xs) → next_record default_config s f x xs ≡ Some p → Good p

ascii_of : (a : Action) (c : ℕ) → (a ≡ act.Copy) ⊎ (c < 128) → a ≢ act.Copy → c < 128
ascii_of a c (inl h) k = absurd (k h)
ascii_of a c (inr h) k = h

turn : (c : ℕ) (xs : List ℕ) → Reads xs → (s : State) (f : List (List ℕ)) (x : List ℕ) (p : Read) → no_comment s ≡ true → AllText f → IsUtf8 (x ++ c ∷ xs)
    → (a : Action) → (step default_config s c).1 ≡ a → next_record default_config s f x (c ∷ xs) ≡ Some p → Good p
unfolding next_record
turn c xs ih s f x p plain fs t act.Copy q e =
    ih (step default_config s c).0 f (x ++ c ∷ []) p (fine s c plain).1 fs (rw append_assoc t) (rw q at e)
turn c xs ih s f x p plain fs t act.Skip q e =
    let low = ascii_of _ c (fine s c plain).0 (λ h. cc) in
    ih (step default_config s c).0 f x p (fine s c plain).1 fs (IsUtf8-append x xs (front_text x c xs t low) (rest_text x c xs t low)) (rw q at e)
turn c xs ih s f x p plain fs t act.EndField q e =
    let low = ascii_of _ c (fine s c plain).0 (λ h. cc) in
    ih (step default_config s c).0 (f ++ x ∷ []) [] p (fine s c plain).1 (all_text_push f x fs (front_text x c xs t low)) (rest_text x c xs t low) (rw q at e)
turn c xs ih s f x p plain fs t act.EndRecord q e =
    let low = ascii_of _ c (fine s c plain).0 (λ h. cc) in
    subst Good (same_Some _ _ (rw q at e)) (all_text_push f x fs (front_text x c xs t low), (fine s c plain).1, rest_text x c xs t low)

next_texts : (xs : List ℕ) → Reads xs
unfolding next_record
next_texts [] s f x p plain fs t e = elim (cases_Bool (ends_at_end s)) [
  | inl ends ↦ subst Good (same_Some _ _ (rw ends at e)) (all_text_push f x fs (rw append-nil at t), refl, IsUtf8-nil)
  | inr goes ↦ let q = rw goes at e in cc
]
next_texts (c ∷ xs) s f x p plain fs t e = turn c xs (next_texts xs) s f x p plain fs t (step default_config s c).1 refl e

rows_next : (n : ℕ) → ((s : State) (xs : List ℕ) → no_comment s ≡ true → IsUtf8 xs → EveryText (records_from default_config n s xs))
    → (s : State) (xs : List ℕ) → no_comment s ≡ true → IsUtf8 xs → (o : Option Read) → next_record default_config s [] [] xs ≡ o
    → EveryText (records_next (records_from default_config n) o)
unfolding EveryText AllText
rows_next n ih s xs plain t None e = tt
rows_next n ih s xs plain t (Some p) e =
    let good = next_texts xs s [] [] p plain tt t e in
    (good.0, ih p.1 p.2 good.1 good.2)

texts_from : (n : ℕ) (s : State) (xs : List ℕ) → no_comment s ≡ true → IsUtf8 xs → EveryText (records_from default_config n s xs)
unfolding records_from EveryText
texts_from zero s xs plain t = tt
texts_from (suc n) s xs plain t = rows_next n (texts_from n) s xs plain t (next_record default_config s [] [] xs) refl

-- every field of a text in UTF-8 is a text
pub all_texts : (xs : List ℕ) → IsUtf8 xs → EveryText (records default_config xs)
all_texts xs t = texts_from (length xs + 1) st.StartRecord xs refl t

pub text_at : (fs : List (List ℕ)) (i : ℕ) → AllText fs → IsUtf8 (unwrap_or (field_at fs i) [])
unfolding field_at AllText
text_at [] i h = IsUtf8-nil
text_at (f ∷ fs) zero h = h.0
text_at (f ∷ fs) (suc i) h = text_at fs i h.1

pub texts_next : (all rest : FieldRows) (r : List (List ℕ)) → all ≡ r ∷ rest → EveryText all → AllText r × EveryText rest
unfolding EveryText
texts_next all rest r e h = rw e at h

-- all but the first
pub later_texts : (all : FieldRows) → EveryText all → EveryText (drop 1 all)
unfolding EveryText
later_texts [] h = h
later_texts (r ∷ rest) h = h.1
