-- The steps of a change in a hall: what the hall answers, and what the session learns of it.
use Rattle.std.specs.Prelude.{◌≡◌, ◌≤◌, ◌<◌, ⊤, List, Option, Some, None, Result, Ok, Err, length}
use Rattle.df_state.specs.Desks.{desks_after}
use Rattle.df_state.specs.declared.change.Change.{Change}
use Rattle.df_state.specs.declared.state.State.{State}
use Rattle.df_shell.specs.Halls.{Follows, HallParts, HasNoDesk}
use Rattle.df_session.specs.declared.refusal.Refusal.{Refusal}
use Rattle.df_session.specs.declared.refusal.Refusal.TheVariants as refusal
use Rattle.df_session.specs.declared.refusal.VersionFault.TheVariants as version
use Rattle.df_versions.specs.Answered.{IsAccepted, IsRefusedAt}
use Rattle.df_versions.specs.declared.fault.ChangeFault.{ChangeFault}
use Rattle.df_versions.specs.declared.fault.ChangeFault.TheVariants.{Ahead, Memory, Refused, Spent}

-- what was told last is all that is known; before, that is the opening state alone
abbrev pub IsKnown : Option (List State) → List State → Type 0
IsKnown None known = length known ≤ 1
IsKnown (Some told) known = known ≡ told

-- only what was told is another
abbrev pub having_told : List State → HallParts → HallParts
having_told told p = record p { told = told }

module _ {J : Type 0} where
  -- what a hall answers to a change, for a session that was told of this history: at Ok a longer one
  abbrev pub AnswersTold : List State → Change → Result (List State) (ChangeFault J) → Type 0
  AnswersTold known c (Ok told) = IsAccepted told c × (length known < length told)
  AnswersTold known c (Err (Refused f told)) = IsRefusedAt told c f × (length known ≤ length told)
  AnswersTold known c (Err f) = ⊤

  -- what is told is no shorter than what is known
  abbrev pub IsLongEnough : List State → Result (List State) (ChangeFault J) → Type 0
  IsLongEnough known (Ok told) = length known ≤ length told
  IsLongEnough known (Err (Refused f told)) = length known ≤ length told
  IsLongEnough known (Err f) = ⊤

  -- what the hall answered to a change, and the desks after it; none where there is no desk for it
  abbrev pub IsAnswered : HallParts → Change → Option (Result (List State) (ChangeFault J)) → HallParts → Type 0
  IsAnswered old c None new = HasNoDesk old.desks c × (new ≡ old)
  IsAnswered old c (Some (Ok told)) new = AnswersTold old.told c (Ok told) × (new ≡ record old { desks = desks_after old.desks c })
  IsAnswered old c (Some (Err f)) new = AnswersTold old.told c (Err f) × (new ≡ old)

  -- what is learnt of an answer, and the refusal
  abbrev pub IsLearnt : HallParts → Result (List State) (ChangeFault J) → Result (Unit {0}) Refusal → HallParts → Type 0
  IsLearnt old (Ok told) (Ok _) new = Follows old new × (new ≡ having_told told old)
  IsLearnt old (Err (Refused f told)) (Err r) new = Follows old new × (new ≡ having_told told old) × (r ≡ refusal.Store f)
  IsLearnt old (Err Spent) (Err r) new = (new ≡ old) × (r ≡ refusal.Version version.Spent)
  IsLearnt old (Err Ahead) (Err r) new = (new ≡ old) × (r ≡ refusal.Version version.Ahead)
  IsLearnt old (Err Memory) (Err r) new = (new ≡ old) × (r ≡ refusal.Memory)
  IsLearnt old answer result new = ⊥
