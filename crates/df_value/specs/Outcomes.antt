-- What the answer of a call says of the answer that is wanted.
use Rattle.std.specs.Prelude.{◌≡◌, ◌≢◌, Result, Ok, Err, MatchResult}

-- the call answers what is wanted, unless it answers this fault: that memory was refused
abbrev pub Answers : {A E : Type 0} → E → Result A E → Result A E → Type 0
Answers memory want result = MatchResult result (λ x. want ≡ Ok x) (λ f. f ≢ memory → want ≡ Err f)

-- the next answer, given what the first one is; or the first one's fault, and nothing more is asked
abbrev pub then_next : {A B E : Type 0} → Result A E → (A → Result B E) → Result B E
then_next (Ok x) next = next x
then_next (Err f) next = Err f
