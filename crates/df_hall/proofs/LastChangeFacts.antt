-- What a catalogue keeps is what the last step of its history did.
use Rattle.std.proofs.Common.{◌≡◌, ◌∙◌, ℕ, List, [], ◌∷◌, ◌++◌, refl, ap, subst, sym, append_assoc, Result, Ok, Err, Some, None, OnOk, OnErr, IsSomeAnd}
use Rattle.std.specs.Prelude.{IfOk, IfSome, Option, option_map, unwrap_or}
use Rattle.std.specs.declared.alloc.AllocError.{AllocError}
use Rattle.df_column.specs.Tables.{TaggedRows}
use Rattle.df_delta.specs.Deltas.{Changes}
use Rattle.df_plan.specs.CheckedParts.{CheckedParts}
use Rattle.df_live.specs.Views.{value}
use Rattle.df_state.specs.Pictures.{next_state}
use Rattle.df_state.specs.Reads.{kept_of, last_changes_of, view_named, view_schema_of}
use Rattle.df_state.specs.declared.change.Change.{Change}
use Rattle.df_state.specs.declared.state.CatalogueParts.{CatalogueParts}
use Rattle.df_state.specs.declared.state.StagedParts.{StagedParts}
use Rattle.df_state.specs.declared.state.State.{State}
use Rattle.df_state.specs.declared.state.ViewState.{ViewState}
use Rattle.df_catalogue.specs.KeptChanges.{AreKeptAt, HasSameChanges, none_kept, tagged_table_of}
use Rattle.df_catalogue.specs.LiveViews.{tagged_frames}
use Rattle.df_catalogue.specs.StagedChanges.{IsStagedFor}
use Rattle.df_catalogue.specs.declared.keeping.ViewChanges.{ViewChanges}
use Rattle.df_catalogue.proofs.KeptFacts.{kept-found, kept-of-none, none-of-name}
use Rattle.df_catalogue.proofs.StagedFacts.{kept-of-commit}
use Rattle.df_versions.specs.Answered.{AnswersNext, ChangesHistory}
use Rattle.df_versions.specs.Histories.{last_state}
use Rattle.df_versions.specs.declared.fault.ChangeFault.{ChangeFault}
use Rattle.df_versions.proofs.Histories.{ends_split, last_state-more}
use Rattle.df_hall.specs.LastChanges.{AreOfLastStep, IsLastChange, IsLastDiff}

some-same : {A : Type 0} (a b : A) → Some a ≡ Some b → a ≡ b
some-same a b e = cc

-- nothing is kept
pub none-last : (history : List State) (c : CatalogueParts) → c.changes ≡ [] → AreOfLastStep history c
none-last history c none name d e = absurd (cc (ap (kept_of name c.state.views) none, kept-of-none name c.state.views, e))

-- the changes of the last step, with the table after it
pub last-change :
    (history : List State) (c : CatalogueParts) (name : List ℕ) (v : ViewChanges) → last_state history ≡ Some c.state → AreOfLastStep history c →
    last_changes_of c name ≡ Some v.changes → tagged_table_of c.state name ≡ Some v.table.rows → view_schema_of c.state name ≡ Some v.table.schema →
    IsLastChange history name v
last-change history c name v ends all kept table schema =
    let h : IsLastDiff history name v.changes = all name v.changes kept in
    let whole : (h.before ++ h.old ∷ []) ++ h.new ∷ [] ≡ history = append_assoc h.before (h.old ∷ []) (h.new ∷ []) ∙ sym h.ends in
    let is : c.state ≡ h.new = some-same c.state h.new (sym ends ∙ (ap last_state (sym whole) ∙ last_state-more (h.before ++ h.old ∷ []) h.new)) in
    let own : tagged_table_of h.new name ≡ Some (value h.view.plan (tagged_frames h.new.frames)) =
    ap (option_map (λ (w : ViewState). value w.plan (tagged_frames h.new.frames))) h.named in
    record {
      last = h;
      table = some-same v.table.rows (value h.view.plan (tagged_frames h.new.frames)) (sym table ∙ (ap (λ s. tagged_table_of s name) is ∙ own));
      schema = some-same v.table.schema h.view.plan.schema (sym schema ∙ (ap (λ s. view_schema_of s name) is ∙ ap (λ o. option_map (λ (p : CheckedParts). p.schema) (option_map (λ (w : ViewState). w.plan) o)) h.named));
    }

-- where all was forgotten
pub forgotten-last : (history : List State) (c : CatalogueParts) → c.changes ≡ none_kept c.state.views → AreOfLastStep history c
forgotten-last history c none name d e = absurd (cc (ap (kept_of name c.state.views) none, none-of-name name c.state.views, e))

-- what is answered for a history that was told, where it is the catalogue's
pub told-change :
    (history told : List State) (c : CatalogueParts) (name : List ℕ) (r : Result (Option ViewChanges) AllocError) → last_state history ≡ Some c.state →
    AreOfLastStep history c → told ≡ history → IfOk r (λ o. option_map (λ v. v.changes) o ≡ last_changes_of c name) →
    IfOk r (λ o. IfSome o (λ v. tagged_table_of c.state name ≡ Some v.table.rows)) →
    IfOk r (λ o. IfSome o (λ v. view_schema_of c.state name ≡ Some v.table.schema)) → IfOk r (λ o. IfSome o (IsLastChange told name))
told-change history told c name (Ok None) ends all same kept table schema = tt
told-change history told c name (Ok (Some v)) ends all same kept table schema =
    subst (λ h. IsLastChange h name v) (sym same) (last-change history c name v ends all (sym kept) table schema)
told-change history told c name (Err f) ends all same kept table schema = tt

-- the state that is to come is the staged one
staged-state :
    (old now : CatalogueParts) (c : Change) (o : Option StagedParts) (d : State) → IsSomeAnd o (IsStagedFor old c) →
    now.state ≡ unwrap_or (option_map (λ s. s.state) o) d → IsSomeAnd o (λ s. now.state ≡ s.state)
staged-state old now c None d h e = absurd h
staged-state old now c (Some s) d h e = e

step-last :
    (log log' : List State) (old now : CatalogueParts) (c : Change) → last_state log ≡ Some old.state → log' ≡ log ++ now.state ∷ [] →
    AreKeptAt old.keeps c old.state now.state now.changes → AreOfLastStep log' now
step-last log log' old now c ends longer kept name d e =
    let split = ends_split log old.state ends in
    let found = kept-found old.keeps c old.state now.state now.changes name d kept e in record {
      before = split.0;
      old = old.state;
      new = now.state;
      ends = longer ∙ (ap (λ l. l ++ now.state ∷ []) split.1 ∙ append_assoc split.0 (old.state ∷ []) (now.state ∷ []));
      view = found.0;
      named = found.1;
      diff = found.2;
    }

-- nothing else is kept where nothing was done
same-last : (log log' : List State) (old now : CatalogueParts) → log' ≡ log → now.state ≡ old.state → now.changes ≡ old.changes → AreOfLastStep log old → AreOfLastStep log' now
same-last log log' old now same state changes h name d e =
    subst (λ l. IsLastDiff l name d) (sym same)
    (h name d (sym (ap (λ (s : State). kept_of name s.views now.changes) state ∙ ap (kept_of name old.state.views) changes) ∙ e))

module _ {J : Type 0} where
  -- what is kept is still that of the last step where a staged change was entered
  pub entered-last :
      (log log' : List State) (old mid now : CatalogueParts) (c : Change) (r : Result (List State) (ChangeFault J)) → last_state log ≡ Some old.state →
      AreOfLastStep log old → HasSameChanges old mid → mid.state ≡ old.state → IsSomeAnd mid.staged (IsStagedFor old c) → AnswersNext log (next_state mid) r →
      ChangesHistory log r log' → OnOk r (now.state ≡ next_state mid) → OnErr r (now.state ≡ mid.state) →
      OnOk r (IsSomeAnd mid.staged (λ s. now.changes ≡ s.changes)) → OnErr r (now.changes ≡ mid.changes) → AreOfLastStep log' now
  entered-last log log' old mid now c (Ok t) ends h same is staged answers changes committed stays kept same_kept =
      step-last log log' old now c ends (changes.told ∙ (answers.added ∙ ap (λ s. log ++ s ∷ []) (sym committed)))
      (kept-of-commit old now c mid.staged staged (staged-state old now c mid.staged mid.state staged committed) kept)
  entered-last log log' old mid now c (Err f) ends h same is staged answers changes committed stays kept same_kept =
      same-last log log' old now changes.same (stays ∙ is) (same_kept ∙ same.changes) h

-- and where nothing was entered
pub refused-last :
    (log : List State) (old mid : CatalogueParts) → HasSameChanges old mid → mid.state ≡ old.state → AreOfLastStep log old → AreOfLastStep log mid
refused-last log old mid same is h = same-last log log old mid refl is same.changes h
