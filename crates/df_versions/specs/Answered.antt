-- What a change of a catalogue that publishes its versions answers, and what becomes of the history.
use Rattle.std.specs.Prelude.{◌≡◌, ◌≢◌, ℕ, ◌<◌, ◌≤◌, ◌-◌, ◌^◌, List, [], ◌∷◌, ◌++◌, length, Option, Some, None, Result, IfOk, IfErr, OnErr}
use Rattle.df_state.specs.declared.change.Change.{Change}
use Rattle.df_state.specs.declared.fault.CatalogueFault.{CatalogueFault}
use Rattle.df_state.specs.declared.fault.CatalogueFault.TheVariants as catalogue_fault
use Rattle.df_state.specs.declared.state.State.{State}
use Rattle.df_state.specs.Changes.{after}
use Rattle.df_state.specs.Refusals.{refusal_of}
use Rattle.df_versions.specs.Histories.{IsHistory, last_state}
use Rattle.df_versions.specs.declared.fault.ChangeFault.{ChangeFault}
use Rattle.df_versions.specs.declared.fault.ChangeFault.TheVariants.{Ahead, Spent, Refused, Memory}

-- of how many states a caller was told
abbrev pub told_states : Option (List State) → ℕ
told_states None = 0
told_states (Some history) = length history

-- a history ends with a state that does not refuse the change, and with what the change makes of it
abbrev pub IsAccepted : List State → Change → Type 0
IsAccepted history c =
    IsHistory history
    × ((before : List State) × (s : State) × (refusal_of s c ≡ None) × (history ≡ before ++ s ∷ after s c ∷ []))

-- a history ends with a state that refuses the change so
abbrev pub IsRefusedAt : List State → Change → CatalogueFault → Type 0
IsRefusedAt history c f =
    IsHistory history × ((before : List State) × (s : State) × (refusal_of s c ≡ Some f) × (history ≡ before ++ s ∷ []))

-- a history is no shorter than what a caller was told of, and short enough that one more state has a number
abbrev pub IsReady : List State → ℕ → Type 0
IsReady history floor = (floor ≤ length history) × (length history < 2 ^ 64 - 1)

-- the last state of a history does not refuse the change
abbrev pub IsFree : List State → Change → Type 0
IsFree history c = (s : State) × (last_state history ≡ Some s) × (refusal_of s c ≡ None)

module _ {J : Type 0} where
  -- why a catalogue with this history is not changed, whatever the change is, for a caller who was told of so many states
  abbrev pub IsUnready : List State → ℕ → ChangeFault J → Type 0
  IsUnready history floor Ahead = length history < floor
  IsUnready history floor Spent = (floor ≤ length history) × (length history ≡ 2 ^ 64 - 1)
  IsUnready history floor (Refused f told) = ⊥
  IsUnready history floor Memory = ⊥

  -- why this change is not made
  abbrev pub IsReason : List State → ℕ → Change → ChangeFault J → Type 0
  IsReason history floor c Ahead = IsUnready history floor Ahead
  IsReason history floor c Spent = IsUnready history floor Spent
  IsReason history floor c (Refused f told) = IsRefusedAt told c f × (floor ≤ length told) × (told ≡ history) × IsReady history floor
  IsReason history floor c Memory = IsFree history c × IsReady history floor

  -- what is answered to a change: at Ok the history up to it, longer than what the caller was told of
  pub record AnswersChange (history : List State) (floor : ℕ) (c : Change) (result : Result (List State) (ChangeFault J)) :
      Type 0 where
    pub accepted : IfOk result (λ told. IsAccepted told c)
    pub later : IfOk result (λ told. floor < length told)
    pub refused : IfErr result (IsReason history floor c)

  -- what becomes of the history: one state more, as is told; or it stays
  pub record ChangesHistory (old : List State) (result : Result (List State) (ChangeFault J)) (new : List State) : Type 0 where
    pub told : IfOk result (λ told. new ≡ told)
    pub longer : IfOk result (λ told. (s : State) × (told ≡ old ++ s ∷ []))
    pub same : OnErr result (new ≡ old)

  -- why a state is not published
  abbrev pub IsUnpublished : List State → ChangeFault J → Type 0
  IsUnpublished history Ahead = ⊥
  IsUnpublished history Spent = length history ≡ 2 ^ 64 - 1
  IsUnpublished history (Refused f told) = ⊥
  IsUnpublished history Memory = Unit {0}

  -- what is answered where this state is to be published
  pub record AnswersNext (history : List State) (next : State) (result : Result (List State) (ChangeFault J)) : Type 0 where
    pub added : IfOk result (λ told. told ≡ history ++ next ∷ [])
    pub lawful : IfOk result (λ told. IsHistory told)
    pub refused : IfErr result (IsUnpublished history)

  -- what is answered after this history where the catalogue refused so
  abbrev pub Reports : List State → CatalogueFault → ChangeFault J → Type 0
  Reports history f Ahead = ⊥
  Reports history f Spent = ⊥
  Reports history f (Refused g told) = (g ≡ f) × (f ≢ catalogue_fault.Memory) × (told ≡ history) × IsHistory history
  Reports history f Memory = f ≡ catalogue_fault.Memory
