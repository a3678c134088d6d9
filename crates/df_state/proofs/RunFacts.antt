-- Runs that go on by one more change.
use Rattle.std.proofs.Common.{◌≡◌, ◌∙◌, List, [], ◌∷◌, ◌++◌, length, map, refl, ap, sym, subst}
use Rattle.std.specs.Prelude.{Option, Some, None, Result, Ok, Err, fold}
use Rattle.std.specs.List.{range_with_len}
use Rattle.std.specs.Result.{result_err}
use Rattle.std.proofs.lemmas.List.{append_assoc, append-nil}
use Rattle.df_state.specs.declared.state.State.{State}
use Rattle.df_state.specs.declared.change.Change.{Change}
use Rattle.df_state.specs.declared.fault.CatalogueFault.{CatalogueFault}
use Rattle.df_state.specs.Refusals.{refusal_of}
use Rattle.df_state.specs.Changes.{after}
use Rattle.df_state.specs.Answers.{RefusedBy}
use Rattle.df_state.specs.Desks.{DeskParts, desks_after, desks_run, AreInOrder}
use Rattle.df_state.specs.Runs.{AnswersEach, IsReplay, IsReplayOfDesks, after_unless, accepted_changes, run_of}
use Rattle.df_state.specs.States.{IsLegal}
use Rattle.df_state.specs.Transitions.{IsTransition, IsTransitionOfDesks}
use Rattle.df_state.proofs.DeskFacts.{frames-after}

-- the state after changes none of which is refused
abbrev pub made : State → List Change → List (Option CatalogueFault) → State
made s cs answers = fold after s (accepted_changes cs answers)

-- where each change is answered, the run passes over those that were refused
pub run-made : (s : State) (cs : List Change) (answers : List (Option CatalogueFault)) → AnswersEach s cs answers → run_of s (accepted_changes cs answers) ≡ made s cs answers
run-made s [] [] h = refl
run-made s [] (a ∷ answers) h = absurd h
run-made s (c ∷ cs) [] h = absurd h
run-made s (c ∷ cs) (None ∷ answers) h =
    ap (λ o. run_of (after_unless o s c) (accepted_changes cs answers)) h.0 ∙ run-made (after s c) cs answers h.1
run-made s (c ∷ cs) (Some f ∷ answers) h = run-made s cs answers h.1

pub answers-none :
    (s : State) (cs : List Change) (answers : List (Option CatalogueFault)) (c : Change) →
    AnswersEach s cs answers → refusal_of (made s cs answers) c ≡ None → AnswersEach s (cs ++ c ∷ []) (answers ++ None ∷ [])
answers-none s [] [] c h k = (k, tt)
answers-none s [] (a ∷ answers) c h k = absurd h
answers-none s (d ∷ cs) [] c h k = absurd h
answers-none s (d ∷ cs) (None ∷ answers) c h k = (h.0, answers-none (after s d) cs answers c h.1 k)
answers-none s (d ∷ cs) (Some f ∷ answers) c h k = (h.0, answers-none s cs answers c h.1 k)

pub answers-some :
    (s : State) (cs : List Change) (answers : List (Option CatalogueFault)) (c : Change) (f : CatalogueFault) →
    AnswersEach s cs answers → RefusedBy (made s cs answers) c f → AnswersEach s (cs ++ c ∷ []) (answers ++ Some f ∷ [])
answers-some s [] [] c f h k = (k, tt)
answers-some s [] (a ∷ answers) c f h k = absurd h
answers-some s (d ∷ cs) [] c f h k = absurd h
answers-some s (d ∷ cs) (None ∷ answers) c f h k = (h.0, answers-some (after s d) cs answers c f h.1 k)
answers-some s (d ∷ cs) (Some e ∷ answers) c f h k = (h.0, answers-some s cs answers c f h.1 k)

pub accepted_changes-none :
    (s : State) (cs : List Change) (answers : List (Option CatalogueFault)) (c : Change) →
    AnswersEach s cs answers → accepted_changes (cs ++ c ∷ []) (answers ++ None ∷ []) ≡ accepted_changes cs answers ++ c ∷ []
accepted_changes-none s [] [] c h = refl
accepted_changes-none s [] (a ∷ answers) c h = absurd h
accepted_changes-none s (d ∷ cs) [] c h = absurd h
accepted_changes-none s (d ∷ cs) (None ∷ answers) c h = ap (λ ds. d ∷ ds) (accepted_changes-none (after s d) cs answers c h.1)
accepted_changes-none s (d ∷ cs) (Some f ∷ answers) c h = accepted_changes-none s cs answers c h.1

pub accepted_changes-some :
    (s : State) (cs : List Change) (answers : List (Option CatalogueFault)) (c : Change) (f : CatalogueFault) →
    AnswersEach s cs answers → accepted_changes (cs ++ c ∷ []) (answers ++ Some f ∷ []) ≡ accepted_changes cs answers
accepted_changes-some s [] [] c f h = refl
accepted_changes-some s [] (a ∷ answers) c f h = absurd h
accepted_changes-some s (d ∷ cs) [] c f h = absurd h
accepted_changes-some s (d ∷ cs) (None ∷ answers) c f h = ap (λ ds. d ∷ ds) (accepted_changes-some (after s d) cs answers c f h.1)
accepted_changes-some s (d ∷ cs) (Some e ∷ answers) c f h = accepted_changes-some s cs answers c f h.1

pub fold-more : {S T : Type 0} (f : S → T → S) (s : S) (xs : List T) (x : T) → fold f s (xs ++ x ∷ []) ≡ f (fold f s xs) x
fold-more f s [] x = refl
fold-more f s (y ∷ ys) x = fold-more f (f s y) ys x

-- how a run stands after some of its changes, with those that are left
pub record IsReplayed (before now : State) (before_desks now_desks : List DeskParts) (all done left : List Change) (answers : List (Option CatalogueFault)) : Type 0 where
  pub parted : done ++ left ≡ all
  pub answered : AnswersEach before done answers
  pub state : now ≡ made before done answers
  pub counted : now_desks ≡ desks_run before_desks (accepted_changes done answers)
  pub legal : IsLegal now
  pub schemas : now.schemas ≡ before.schemas
  pub frames : map (λ d. d.frame) now_desks ≡ map (λ d. d.frame) before_desks

pub replayed-none : (s : State) (desks : List DeskParts) (all : List Change) → IsLegal s → IsReplayed s s desks desks all [] all []
replayed-none s desks all legal = record { parted = refl; answered = tt; state = refl; counted = refl; legal = legal; schemas = refl; frames = refl }

-- then the desks are still in order
pub replayed-order :
    (s now : State) (desks held : List DeskParts) (all done left : List Change) (answers : List (Option CatalogueFault)) →
    IsReplayed s now desks held all done left answers → AreInOrder desks s → AreInOrder held now
replayed-order s now desks held all done left answers h order =
    h.frames ∙ (order ∙ ap (λ schemas. range_with_len 0 (length schemas)) (sym h.schemas))

-- one change more, and what it answers
pub replayed-more :
    (s now new : State) (desks held kept : List DeskParts) (all done left rest : List Change) (answers : List (Option CatalogueFault)) (c : Change)
    (r : Result (Unit {0}) CatalogueFault) →
    IsReplayed s now desks held all done rest answers → rest ≡ c ∷ left → IsTransition now c r new → IsTransitionOfDesks held c r kept →
    IsReplayed s new desks kept all (done ++ c ∷ []) left (answers ++ result_err r ∷ [])
replayed-more s now new desks held kept all done left rest answers c (Ok x) h e of_state of_desks =
    let more = accepted_changes-none s done answers c h.answered in
    record {
      parted = append_assoc done (c ∷ []) left ∙ (ap (λ cs. done ++ cs) (sym e) ∙ h.parted);
      answered = answers-none s done answers c h.answered (subst (λ t. refusal_of t c ≡ None) h.state of_state.accepted);
      state =
          of_state.after
          ∙ (ap (λ t. after t c) h.state ∙ (sym (fold-more after s (accepted_changes done answers) c) ∙ ap (fold after s) (sym more)));
      counted =
          of_desks.counted
          ∙ (ap (λ ds. desks_after ds c) h.counted
          ∙ (sym (fold-more desks_after desks (accepted_changes done answers) c) ∙ ap (fold desks_after desks) (sym more)));
      legal = of_state.legal;
      schemas = ap (λ t. t.schemas) of_state.after ∙ h.schemas;
      frames = ap (map (λ d. d.frame)) of_desks.counted ∙ (frames-after held c ∙ h.frames);
    }
replayed-more s now new desks held kept all done left rest answers c (Err f) h e of_state of_desks =
    let more = accepted_changes-some s done answers c f h.answered in
    record {
      parted = append_assoc done (c ∷ []) left ∙ (ap (λ cs. done ++ cs) (sym e) ∙ h.parted);
      answered = answers-some s done answers c f h.answered (subst (λ t. RefusedBy t c f) h.state of_state.refused);
      state = of_state.same ∙ (h.state ∙ ap (fold after s) (sym more));
      counted = of_desks.same ∙ (h.counted ∙ ap (fold desks_after desks) (sym more));
      legal = of_state.legal;
      schemas = ap (λ t. t.schemas) of_state.same ∙ h.schemas;
      frames = ap (map (λ d. d.frame)) of_desks.same ∙ h.frames;
    }

-- what is made and told of a run of which nothing is left
pub replayed-state :
    (s now : State) (desks held : List DeskParts) (all done rest : List Change) (answers : List (Option CatalogueFault)) →
    IsReplayed s now desks held all done rest answers → rest ≡ [] → IsReplay s all (Ok answers) now
replayed-state s now desks held all done rest answers h e =
    let whole : done ≡ all = sym (append-nil done) ∙ (ap (λ cs. done ++ cs) (sym e) ∙ h.parted) in record {
      answers = subst (λ cs. AnswersEach s cs answers) whole h.answered;
      run = h.state ∙ (sym (run-made s done answers h.answered) ∙ ap (λ cs. run_of s (accepted_changes cs answers)) whole);
      same = tt;
      legal = h.legal;
      schemas = h.schemas;
    }

pub replayed-desks :
    (s now : State) (desks held : List DeskParts) (all done rest : List Change) (answers : List (Option CatalogueFault)) →
    IsReplayed s now desks held all done rest answers → rest ≡ [] → IsReplayOfDesks desks all (Ok answers) held
replayed-desks s now desks held all done rest answers h e =
    let whole : done ≡ all = sym (append-nil done) ∙ (ap (λ cs. done ++ cs) (sym e) ∙ h.parted) in
    record { counted = h.counted ∙ ap (λ cs. desks_run desks (accepted_changes cs answers)) whole; same = tt; frames = h.frames }
