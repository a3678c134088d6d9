-- Reading with faults: one reading after another, and a list from left to right. The first fault is the answer.
use Rattle.std.specs.Prelude.{◌≡◌, ◌≢◌, List, [], ◌∷◌, ◌++◌, Result, Ok, Err, MatchResult}
use Rattle.df_value.specs.Outcomes.{then_next}
use Rattle.df_text.specs.declared.fault.ViewsFault.{ViewsFault}
use Rattle.df_text.specs.declared.fault.ViewsFault.TheVariants as fault

-- what each item of a list says
abbrev pub read_each : {D A : Type 0} → (D → Result A ViewsFault) → List D → Result (List A) ViewsFault
read_each read [] = Ok []
read_each read (d ∷ ds) = then_next (read d) (λ x. then_next (read_each read ds) (λ xs. Ok (x ∷ xs)))

-- the items read so far, followed by what the rest of the list says; each reading sees all items before its own
abbrev pub read_after : {D A : Type 0} → (List A → D → Result A ViewsFault) → List A → List D → Result (List A) ViewsFault
read_after read before [] = Ok before
read_after read before (d ∷ ds) = then_next (read before d) (λ x. read_after read (before ++ x ∷ []) ds)
