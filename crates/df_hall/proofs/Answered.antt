-- What changes of a catalogue that publishes its versions answer.
use Rattle.std.proofs.Common.{◌≡◌, ◌∙◌, ℕ, ◌≤◌, List, arith, [], ◌∷◌, ◌++◌, ap, subst, sym, append_assoc, Result, Ok, Err, Some, None, OnOk, OnErr, length, length-append, IsSomeAnd}
use Rattle.df_value.specs.declared.cell.CellType.{CellType}
use Rattle.df_state.specs.declared.state.State.{State}
use Rattle.df_state.specs.declared.change.Change.{Change}
use Rattle.df_state.specs.declared.fault.CatalogueFault.{CatalogueFault}
use Rattle.df_state.specs.declared.state.CatalogueParts.{CatalogueParts}
use Rattle.df_state.specs.Answers.{RefusedBy}
use Rattle.df_state.specs.Changes.{after}
use Rattle.df_state.specs.Pictures.{next_state}
use Rattle.df_state.specs.Refusals.{refusal_of}
use Rattle.df_catalogue.specs.StagedChanges.{IsStagedFor}
use Rattle.df_versions.specs.Histories.{IsHistory, IsHistoryOver, last_state}
use Rattle.df_versions.specs.Answered.{IsAccepted, IsRefusedAt, IsReady, IsReason, IsUnpublished, AnswersChange, AnswersNext, ChangesHistory, Reports}
use Rattle.df_versions.specs.declared.fault.ChangeFault.{ChangeFault}
use Rattle.df_versions.specs.declared.fault.ChangeFault.TheVariants.{Ahead, Spent, Refused, Memory}
use Rattle.df_versions.proofs.Histories.{ends_split, last_state-more, over-longer}
use Rattle.df_hall.proofs.Staged.{staged-next}

-- a history that was made longer by what the change makes of its last state
told-accepted :
    (log told : List State) (s t : State) (c : Change) → last_state log ≡ Some s → refusal_of s c ≡ None → t ≡ after s c →
    IsHistory told → told ≡ log ++ t ∷ [] → IsAccepted told c
told-accepted log told s t c ends free is lawful e =
    let split = ends_split log s ends in
    let whole : told ≡ split.0 ++ s ∷ after s c ∷ [] =
    e ∙ (ap (λ x. log ++ x ∷ []) is ∙ (ap (λ l. l ++ after s c ∷ []) split.1 ∙ append_assoc split.0 (s ∷ []) (after s c ∷ []))) in
    (lawful, (split.0, s, free, whole))

refused-at : (log told : List State) (s : State) (c : Change) (f : CatalogueFault) → last_state log ≡ Some s → refusal_of s c ≡ Some f → IsHistory log → told ≡ log → IsRefusedAt told c f
refused-at log told s c f ends refused lawful e =
    let split = ends_split log s ends in
    (subst IsHistory (sym e) lawful, (split.0, s, refused, e ∙ split.1))

module _ {J : Type 0} where
  unpublished-reason :
      (log : List State) (s : State) (c : Change) (floor : ℕ) (r : ChangeFault J) → last_state log ≡ Some s → refusal_of s c ≡ None → IsReady log floor →
      IsUnpublished log r → IsReason log floor c r
  unpublished-reason log s c floor Ahead ends free ready h = absurd h
  unpublished-reason log s c floor Spent ends free ready h = absurd (omega (arith, ready.1, h))
  unpublished-reason log s c floor (Refused g t) ends free ready h = absurd h
  unpublished-reason log s c floor Memory ends free ready h = ((s, ends, free), ready)

  entered-answers :
      (log : List State) (s next : State) (c : Change) (floor : ℕ) (r : Result (List State) (ChangeFault J)) → last_state log ≡ Some s → refusal_of s c ≡ None → next ≡ after s c →
      IsReady log floor → AnswersNext log next r → AnswersChange log floor c r
  entered-answers log s next c floor (Ok t) ends free is ready h = record {
    accepted = told-accepted log t s next c ends free is h.lawful h.added;
    later = omega (arith, ready.0, ap length h.added ∙ length-append log (next ∷ []));
    refused = tt;
  }
  entered-answers log s next c floor (Err f) ends free is ready h = record {
    accepted = tt;
    later = tt;
    refused = unpublished-reason log s c floor f ends free ready h.refused;
  }

  -- where the change was staged, and is entered
  pub staged-answers :
      (log self : List State) (old mid : CatalogueParts) (c : Change) (floor : ℕ) (r : Result (List State) (ChangeFault J)) → log ≡ self → last_state log ≡ Some old.state →
      refusal_of old.state c ≡ None → IsSomeAnd mid.staged (IsStagedFor old c) → IsReady log floor → AnswersNext log (next_state mid) r → AnswersChange self floor c r
  staged-answers log self old mid c floor r is ends free staged ready h =
      subst (λ (l : List State). AnswersChange l floor c r) is (entered-answers log old.state (next_state mid) c floor r ends free (staged-next old mid c staged) ready h)

  reported-reason :
      (log : List State) (s : State) (c : Change) (floor : ℕ) (f : CatalogueFault) (r : ChangeFault J) → last_state log ≡ Some s → RefusedBy s c f → IsReady log floor →
      Reports log f r → IsReason log floor c r
  reported-reason log s c floor f Ahead ends by ready h = absurd h
  reported-reason log s c floor f Spent ends by ready h = absurd h
  reported-reason log s c floor f (Refused g t) ends by ready h =
      (refused-at log t s c g ends (by.exact h.1 ∙ ap Some (sym h.0)) h.3 h.2, subst (λ (l : List State). floor ≤ length l) (sym h.2) ready.0, h.2, ready)
  reported-reason log s c floor f Memory ends by ready h = ((s, ends, by.memory_last h), ready)

  -- where the catalogue refused the change
  pub reported-answers :
      (log self : List State) (s : State) (c : Change) (floor : ℕ) (f : CatalogueFault) (r : ChangeFault J) → log ≡ self → last_state log ≡ Some s → RefusedBy s c f →
      IsReady log floor → Reports log f r → AnswersChange self floor c (Err r)
  reported-answers log self s c floor f r is ends by ready h =
      subst (λ (l : List State). AnswersChange l floor c (Err r)) is (record { accepted = tt; later = tt; refused = reported-reason log s c floor f r ends by ready h })

  -- the history is still over the same schemas where a staged change was entered
  pub entered-over :
      (schemas : List (List (List ℕ × CellType))) (log log' : List State) (next : State) (r : Result (List State) (ChangeFault J)) → IsHistoryOver schemas log →
      AnswersNext log next r → ChangesHistory log r log' → IsHistoryOver schemas log'
  entered-over schemas log log' next (Ok t) over h changes =
      subst (IsHistoryOver schemas) (sym (changes.told ∙ h.added)) (over-longer schemas log next over (subst IsHistory h.added h.lawful))
  entered-over schemas log log' next (Err f) over h changes = subst (IsHistoryOver schemas) (sym changes.same) over

  -- the history still ends with the catalogue's state where a staged change was entered
  pub entered-ends :
      (log log' : List State) (s mid s' next : State) (r : Result (List State) (ChangeFault J)) → last_state log ≡ Some s → mid ≡ s →
      AnswersNext log next r → ChangesHistory log r log' → OnOk r (s' ≡ next) → OnErr r (s' ≡ mid) → last_state log' ≡ Some s'
  entered-ends log log' s mid s' next (Ok t) ends is h changes committed same =
      ap last_state (changes.told ∙ h.added) ∙ (last_state-more log next ∙ ap Some (sym committed))
  entered-ends log log' s mid s' next (Err f) ends is h changes committed same =
      ap last_state changes.same ∙ (ends ∙ ap Some (sym (same ∙ is)))
