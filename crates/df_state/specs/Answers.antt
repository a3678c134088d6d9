-- What a call may answer: Ok only where the definition says so, a fault other than `Memory` only where it is the one
-- that the definition gives, and `Memory` only where nothing else is wrong.
use Rattle.std.specs.Prelude.{◌≡◌, ◌≢◌, Bool, true, false, Option, Some, None, Result, Ok, Err}
use Rattle.std.specs.Prelude.{IsTrue, IsOk, MatchResult}
use Rattle.df_state.specs.declared.state.State.{State}
use Rattle.df_state.specs.declared.change.Change.{Change}
use Rattle.df_state.specs.declared.change.Change.TheVariants.{Append, Delete, Replace, Register, DropView}
use Rattle.df_state.specs.declared.fault.CatalogueFault.{CatalogueFault}
use Rattle.df_state.specs.declared.fault.CatalogueFault.TheVariants as fault
use Rattle.df_state.specs.Refusals.{refusal_of}

-- The call answers what is wanted, unless that is Ok and it answers that memory was refused.
abbrev pub AnswersMemoryLast : {T : Type 0} → Result T CatalogueFault → Result T CatalogueFault → Type 0
AnswersMemoryLast want result =
    MatchResult result (λ x. want ≡ Ok x) (λ f. (f ≢ fault.Memory → want ≡ Err f) × (f ≡ fault.Memory → IsOk want))

-- Whether a change takes memory.
abbrev pub takes_memory : Change → Bool
takes_memory (Append f c) = true
takes_memory (Delete f ns) = true
takes_memory (Replace f rows) = true
takes_memory (Register name p) = true
takes_memory (DropView name) = false

-- A state refused a change so: it is its refusal, or memory was refused to a change that takes it and nothing else
-- refuses the change.
pub record RefusedBy (s : State) (c : Change) (f : CatalogueFault) : Type 0 where
  pub exact : f ≢ fault.Memory → refusal_of s c ≡ Some f
  pub memory_last : f ≡ fault.Memory → refusal_of s c ≡ None
  pub memory_taken : f ≡ fault.Memory → IsTrue (takes_memory c)

-- The test of a change found that nothing refuses it, or its refusal.
abbrev pub AnswersTest : {T : Type 0} → Option CatalogueFault → Result T CatalogueFault → Type 0
AnswersTest refusal result = MatchResult result (λ _. refusal ≡ None) (λ f. refusal ≡ Some f)
