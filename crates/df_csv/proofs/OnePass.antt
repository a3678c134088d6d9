-- The records of a text in one pass over its bytes, and of a text that is cut behind a line feed.
use Rattle.std.proofs.Common.{◌≡◌, ◌≤◌, ℕ, zero, suc, Bool, true, false, List, [], ◌∷◌, ◌++◌, length, refl, sym, ap, arith, inl, inr, ◌⊎◌, add-one, eqb, ◌∙◌}
use Rattle.std.specs.Prelude.{if◌then◌else◌, ◌||◌}
use Rattle.std.proofs.lemmas.Bool.{cases_Bool, false≢true}
use Rattle.csv.specs.Machine.{next_record, is_end, step, ends_at_end, fields_after, field_after, in_field, start_field, start_record}
use Rattle.csv.specs.Reading.{default_config, records, records_from, records_next}
use Rattle.csv.specs.declared.parser.Action.{Action}
use Rattle.csv.specs.declared.parser.Action.TheVariants as act
use Rattle.csv.specs.declared.parser.State.{State}
use Rattle.csv.specs.declared.parser.State.TheVariants as st
use Rattle.df_csv.specs.Records.{FieldRows}
use Rattle.df_csv.proofs.Fuel.{none_left}

-- the records of a text from a state on, with the fields and the bytes of the field at hand
unfoldable pub all_of : State → List (List ℕ) → List ℕ → List ℕ → FieldRows
all_of s f x [] = if ends_at_end s then (f ++ x ∷ []) ∷ [] else []
all_of s f x (c ∷ rest) =
    if is_end (step default_config s c).1
    then fields_after (step default_config s c).1 f x ∷ all_of (step default_config s c).0 [] [] rest
    else all_of (step default_config s c).0 (fields_after (step default_config s c).1 f x) (field_after (step default_config s c).1 c x) rest

-- so many records as bytes are enough
one_pass : (xs : List ℕ) (n : ℕ) (s : State) (f : List (List ℕ)) (x : List ℕ) → length xs ≤ n
    → records_next (records_from default_config n) (next_record default_config s f x xs) ≡ all_of s f x xs
unfolding next_record all_of records_from
one_pass [] n s f x h = elim (cases_Bool (ends_at_end s)) [
  | inl ends ↦ rw ends (ap (λ (r : FieldRows). (f ++ x ∷ []) ∷ r) (none_left default_config n))
  | inr goes ↦ rw goes refl
]
one_pass (c ∷ rest) zero s f x h = absurd (omega arith)
one_pass (c ∷ rest) (suc n) s f x h = elim (cases_Bool (is_end (step default_config s c).1)) [
  | inl ends ↦ rw ends (ap (λ (r : FieldRows). fields_after (step default_config s c).1 f x ∷ r) (one_pass rest n (step default_config s c).0 [] [] (omega arith)))
  | inr goes ↦ rw goes (one_pass rest (suc n) (step default_config s c).0 (fields_after (step default_config s c).1 f x) (field_after (step default_config s c).1 c x) (omega arith))
]

records_pass : (xs : List ℕ) → records default_config xs ≡ all_of st.StartRecord [] [] xs
unfolding records_from
records_pass xs = rw (add-one (length xs)) (one_pass xs (length xs) st.StartRecord [] [] (omega arith))

-- whether there is a double quote in a text
abbrev pub quoted : List ℕ → Bool
quoted [] = false
quoted (c ∷ rest) = eqb c 34 || quoted rest

-- the states that are reached without a double quote
abbrev plain : State → Bool
plain st.StartRecord = true
plain st.StartField = true
plain st.InField = true
plain st.AfterCr = true
plain st.InQuoted = false
plain st.InEscape = false
plain st.AfterQuote = false
plain st.InComment = false

-- those in which no record is begun
abbrev between : State → Bool
between st.StartRecord = true
between st.AfterCr = true
between st.StartField = false
between st.InField = false
between st.InQuoted = false
between st.InEscape = false
between st.AfterQuote = false
between st.InComment = false

-- a step to a plain state; between two records it ended one, or skipped a byte between them
abbrev Goes : State → State × Action → Type 0
Goes s p = (plain p.0 ≡ true) × (between p.0 ≡ true → (is_end p.1 ≡ true) ⊎ ((p.1 ≡ act.Skip) × (between s ≡ true)))

goes_if : (s : State) (b : Bool) (p q : State × Action) → Goes s p → Goes s q → Goes s (if b then p else q)
goes_if s true p q f g = f
goes_if s false p q f g = g

goes_else : (s : State) (b : Bool) (p q : State × Action) → b ≡ false → Goes s q → Goes s (if b then p else q)
goes_else s true p q e g = absurd (false≢true (sym e))
goes_else s false p q e g = g

plain_end : (b : Bool) → plain (if b then st.AfterCr else st.StartRecord) ≡ true
plain_end true = refl
plain_end false = refl

goes_in : (s : State) (c : ℕ) → Goes s (in_field default_config c)
goes_in s c =
    goes_if s (eqb c 44) _ _ (refl, λ h. absurd (false≢true h))
    (goes_if s (eqb c 13 || eqb c 10) _ _ (plain_end (eqb c 13), λ h. inl refl) (refl, λ h. absurd (false≢true h)))

goes_start : (s : State) (c : ℕ) → eqb c 34 ≡ false → Goes s (start_field default_config c)
goes_start s c e = goes_else s (eqb c 34) _ _ e (goes_in s c)

goes_record : (s : State) (c : ℕ) → between s ≡ true → eqb c 34 ≡ false → Goes s (start_record default_config c)
goes_record s c b e = goes_if s (eqb c 13 || eqb c 10) _ _ (refl, λ h. inr (refl, b)) (goes_start s c e)

goes : (s : State) (c : ℕ) → plain s ≡ true → eqb c 34 ≡ false → Goes s (step default_config s c)
goes st.StartRecord c p e = goes_record st.StartRecord c refl e
goes st.StartField c p e = goes_start st.StartField c e
goes st.InField c p e = goes_in st.InField c
goes st.AfterCr c p e = goes_if st.AfterCr (eqb c 10) _ _ (refl, λ h. inr (refl, refl)) (goes_record st.AfterCr c refl e)
goes st.InQuoted c p e = absurd (false≢true p)
goes st.InEscape c p e = absurd (false≢true p)
goes st.AfterQuote c p e = absurd (false≢true p)
goes st.InComment c p e = absurd (false≢true p)

-- between two records nothing of one is at hand
abbrev Fresh : State → List (List ℕ) → List ℕ → Type 0
Fresh s f x = between s ≡ true → (f ≡ []) × (x ≡ [])

fresh_skip : (a : Action) (c : ℕ) (f : List (List ℕ)) (x : List ℕ) → a ≡ act.Skip → (f ≡ []) × (x ≡ []) → (fields_after a f x ≡ []) × (field_after a c x ≡ [])
fresh_skip a c f x e h = rw e h

stays_fresh : (s : State) (c : ℕ) (f : List (List ℕ)) (x : List ℕ) → Fresh s f x → is_end (step default_config s c).1 ≡ false
    → (is_end (step default_config s c).1 ≡ true) ⊎ (((step default_config s c).1 ≡ act.Skip) × (between s ≡ true))
    → (fields_after (step default_config s c).1 f x ≡ []) × (field_after (step default_config s c).1 c x ≡ [])
stays_fresh s c f x fresh on (inl ends) = absurd (false≢true (sym on ∙ ends))
stays_fresh s c f x fresh on (inr h) = fresh_skip (step default_config s c).1 c f x h.0 (fresh h.1)

neither : (a b : Bool) → (a || b) ≡ false → (a ≡ false) × (b ≡ false)
neither true b e = absurd (false≢true (sym e))
neither false b e = (refl, e)

-- a line feed ends what was begun
at_feed : (s : State) (f : List (List ℕ)) (x b : List ℕ) → plain s ≡ true → Fresh s f x
    → all_of s f x (10 ∷ b) ≡ all_of s f x (10 ∷ []) ++ all_of st.StartRecord [] [] b
unfolding all_of
at_feed st.StartRecord f x b p fresh = let (fields, field) = fresh refl in rw (fields, field) refl
at_feed st.AfterCr f x b p fresh = let (fields, field) = fresh refl in rw (fields, field) refl
at_feed st.StartField f x b p fresh = refl
at_feed st.InField f x b p fresh = refl
at_feed st.InQuoted f x b p fresh = absurd (false≢true p)
at_feed st.InEscape f x b p fresh = absurd (false≢true p)
at_feed st.AfterQuote f x b p fresh = absurd (false≢true p)
at_feed st.InComment f x b p fresh = absurd (false≢true p)

pass_cut : (a b : List ℕ) (s : State) (f : List (List ℕ)) (x : List ℕ) → plain s ≡ true → Fresh s f x → quoted a ≡ false
    → all_of s f x (a ++ 10 ∷ b) ≡ all_of s f x (a ++ 10 ∷ []) ++ all_of st.StartRecord [] [] b
unfolding all_of
pass_cut [] b s f x p fresh q = at_feed s f x b p fresh
pass_cut (c ∷ a) b s f x p fresh q =
    let (here, later) = neither (eqb c 34) (quoted a) q in
    let g = goes s c p here in
    elim (cases_Bool (is_end (step default_config s c).1)) [
      | inl ends ↦ rw ends (ap (λ (r : FieldRows). fields_after (step default_config s c).1 f x ∷ r) (pass_cut a b (step default_config s c).0 [] [] g.0 (λ h. (refl, refl)) later))
      | inr on ↦ rw on (pass_cut a b (step default_config s c).0 _ _ g.0 (λ h. stays_fresh s c f x fresh on (g.1 h)) later)
    ]

-- a text without a double quote may be cut behind any line feed
pub records_cut : (a b : List ℕ) → quoted a ≡ false → records default_config (a ++ 10 ∷ b) ≡ records default_config (a ++ 10 ∷ []) ++ records default_config b
records_cut a b q =
    rw (records_pass (a ++ 10 ∷ b), records_pass (a ++ 10 ∷ []), records_pass b)
    (pass_cut a b st.StartRecord [] [] refl (λ h. (refl, refl)) q)
