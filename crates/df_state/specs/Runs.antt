-- Runs: lists of changes, one after another. A change that is refused is passed over.
use Rattle.std.specs.Prelude.{◌≡◌, List, [], ◌∷◌, map, Option, Some, None, ⊤, Result, OnErr, IfOk}
use Rattle.std.specs.declared.alloc.AllocError.{AllocError}
use Rattle.df_state.specs.declared.state.State.{State}
use Rattle.df_state.specs.declared.change.Change.{Change}
use Rattle.df_state.specs.declared.fault.CatalogueFault.{CatalogueFault}
use Rattle.df_state.specs.Refusals.{refusal_of}
use Rattle.df_state.specs.Changes.{after}
use Rattle.df_state.specs.Answers.{RefusedBy}
use Rattle.df_state.specs.Desks.{DeskParts, desks_run}
use Rattle.df_state.specs.States.{IsLegal}

-- the state after a change, or the same state where the change is refused
abbrev pub after_unless : Option CatalogueFault → State → Change → State
after_unless None s c = after s c
after_unless (Some f) s c = s

abbrev pub next_of : State → Change → State
next_of s c = after_unless (refusal_of s c) s c

-- the state after all of the changes in turn
abbrev pub run_of : State → List Change → State
run_of s [] = s
run_of s (c ∷ cs) = run_of (next_of s c) cs

-- the changes that were answered with none
abbrev pub accepted_changes : List Change → List (Option CatalogueFault) → List Change
accepted_changes [] answers = []
accepted_changes (c ∷ cs) [] = []
accepted_changes (c ∷ cs) (None ∷ answers) = c ∷ accepted_changes cs answers
accepted_changes (c ∷ cs) (Some f ∷ answers) = accepted_changes cs answers

-- there is an answer for each change: none where nothing refuses it at its point, and then the run goes on from the
-- state after it; else its refusal there, or that memory was refused to a change that takes it, and the run goes on
-- from the same state
abbrev pub AnswersEach : State → List Change → List (Option CatalogueFault) → Type 0
AnswersEach s [] [] = ⊤
AnswersEach s [] (a ∷ answers) = ⊥
AnswersEach s (c ∷ cs) [] = ⊥
AnswersEach s (c ∷ cs) (None ∷ answers) = (refusal_of s c ≡ None) × AnswersEach (after s c) cs answers
AnswersEach s (c ∷ cs) (Some f ∷ answers) = RefusedBy s c f × AnswersEach s cs answers

-- an answer for each change: none, or why it was refused; or the room of the answers was refused
abbrev pub Answered : Type 0
Answered = Result (List (Option CatalogueFault)) AllocError

-- what a call that asks for changes in turn makes of the state; at Err nothing was done
pub record IsReplay (old : State) (changes : List Change) (result : Answered) (new : State) : Type 0 where
  pub answers : IfOk result (AnswersEach old changes)
  pub run : IfOk result (λ answers. new ≡ run_of old (accepted_changes changes answers))
  pub same : OnErr result (new ≡ old)
  pub legal : IsLegal new
  pub schemas : new.schemas ≡ old.schemas

-- and of the desks of all frames, of which each stays at its index
pub record IsReplayOfDesks (old : List DeskParts) (changes : List Change) (result : Answered) (new : List DeskParts) :
    Type 0 where
  pub counted : IfOk result (λ answers. new ≡ desks_run old (accepted_changes changes answers))
  pub same : OnErr result (new ≡ old)
  pub frames : map (λ d. d.frame) new ≡ map (λ d. d.frame) old
