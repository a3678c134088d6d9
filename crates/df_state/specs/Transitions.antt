-- What a call that asks for a change makes of the state and of the desks. At Ok nothing refused the change, and it was
-- made; at Err it was refused for the first reason that fits, or memory was refused, and all is as it was.
use Rattle.std.specs.Prelude.{◌≡◌, None, List, Result, OnOk, OnErr, IfErr}
use Rattle.df_state.specs.declared.state.State.{State}
use Rattle.df_state.specs.declared.change.Change.{Change}
use Rattle.df_state.specs.declared.fault.CatalogueFault.{CatalogueFault}
use Rattle.df_state.specs.Answers.{RefusedBy}
use Rattle.df_state.specs.Changes as changes
use Rattle.df_state.specs.Desks.{DeskParts, desk_after, desks_after}
use Rattle.df_state.specs.Refusals.{refusal_of}
use Rattle.df_state.specs.States.{IsLegal}

-- the state, in which each view's table is its plan's value over the frames, whatever was answered
pub record IsTransition {T : Type 0} (old : State) (change : Change) (result : Result T CatalogueFault) (new : State) :
    Type 0 where
  pub accepted : OnOk result (refusal_of old change ≡ None)
  pub after : OnOk result (new ≡ changes.after old change)
  pub refused : IfErr result (RefusedBy old change)
  pub same : OnErr result (new ≡ old)
  pub legal : IsLegal new

-- the desk through which the change is asked for: it counts the rows
pub record IsTransitionOfDesk
    {T : Type 0} (old : DeskParts) (change : Change) (result : Result T CatalogueFault) (new : DeskParts) : Type 0 where
  pub counted : OnOk result (new ≡ desk_after old change)
  pub same : OnErr result (new ≡ old)

-- the desks of all frames
pub record IsTransitionOfDesks
    {T : Type 0} (old : List DeskParts) (change : Change) (result : Result T CatalogueFault) (new : List DeskParts) :
    Type 0 where
  pub counted : OnOk result (new ≡ desks_after old change)
  pub same : OnErr result (new ≡ old)
