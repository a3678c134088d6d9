-- What a catalogue's parts are once what is staged is committed: the parts of the staged state, and sound.
use Rattle.std.proofs.Common.{◌≡◌, ℕ, ◌+◌, ◌<◌, ◌∙◌, Bool, List, [], ◌∷◌, ◌++◌, length, map, refl, ap, sym, subst, arith}
use Rattle.std.specs.Prelude.{Option, Some, None, IfSome, option_map, remove}
use Rattle.std.specs.List.{AllByRecursion}
use Rattle.df_delta.specs.Deltas.{Changes}
use Rattle.df_expr.specs.declared.meter.Meter.{Meter}
use Rattle.df_catalogue.specs.declared.staging.StagedFrame.{StagedFrame}
use Rattle.df_catalogue.specs.declared.staging.Staging.{Staging}
use Rattle.df_catalogue.specs.declared.staging.Staging.TheVariants.{Rows, NewView, OldView}
use Rattle.df_state.specs.declared.state.CatalogueParts.{CatalogueParts}
use Rattle.df_state.specs.declared.state.State.{State}
use Rattle.df_catalogue.specs.declared.views.View.{View}
use Rattle.df_state.specs.Changes.{refreshed_views, view_over}
use Rattle.df_state.specs.Desks.{parts_of_no_desk}
use Rattle.df_frame.specs.FrameParts.{FrameParts, schemas_of, states_of}
use Rattle.df_catalogue.specs.LiveViews.{headings, tagged_frames, view_state, AreLive}
use Rattle.df_catalogue.specs.Parts.{state_of, IsCatalogue}
use Rattle.df_catalogue.specs.StagedChanges.{IsCommit}
use Rattle.df_catalogue.specs.Staging.{frames_with, rows_staged, staged_changes, staged_parts, staged_state, staged_work, state_with_rows, IsNewView, IsOldView, IsSoundCatalogue, IsStagedFrame, IsStaging}
use Rattle.df_state.specs.States.{IsLegal, IsPlanOver}
use Rattle.df_state.proofs.SoundFrames.{accepted-few, deleted-few}
use Rattle.df_catalogue.proofs.LiveFacts.{headings-plans, refreshed-headings, views-live}
use Rattle.df_catalogue.proofs.ViewChangeFacts.{live-removed}
use Rattle.df_catalogue.proofs.ViewLists.{live_push}

-- rows that were taken out were staged
pub rows-there : (o : Option Staging) (r : StagedFrame) → rows_staged o ≡ Some r → o ≡ Some (Rows r)
rows-there None r h = cc
rows-there (Some (Rows q)) r h = let same : q ≡ r = cc in ap (λ x. Some (Rows x)) same
rows-there (Some (NewView v)) r h = cc
rows-there (Some (OldView at)) r h = cc

-- what is staged can be committed
pub can-commit :
    (frames : List FrameParts) (views : List View) (capacity : ℕ) (o : Option Staging) (s : Staging) →
    IfSome o (IsStaging frames views capacity) → o ≡ Some s → IsStaging frames views capacity s
can-commit frames views capacity o s h is = subst (λ p. IfSome p (IsStaging frames views capacity)) is h

-- the books have room for the rows
pub rows-room :
    (frames : List FrameParts) (views : List View) (r : StagedFrame) (accepted deleted : ℕ) (of_accepted of_deleted : ℕ × ℕ) →
    IsCatalogue (state_of (schemas_of frames) (states_of frames) views) views accepted deleted of_accepted of_deleted →
    IsStagedFrame frames views r → (accepted + r.accepted < 18446744073709551616) × (deleted + r.deleted < 18446744073709551616)
rows-room frames views r accepted deleted of_accepted of_deleted h k =
    let new : State = state_with_rows frames views r in
    let few = accepted-few new.schemas new.frames k.legal.frames in
    let fewer = deleted-few new.schemas new.frames k.legal.frames in
    let most = k.legal.few_frames in
    let more = k.accepted in
    let gone = k.deleted in
    let book = h.books_accepted in
    let other = h.books_deleted in
    (omega (arith, few, most, more, book), omega (arith, few, fewer, most, gone, other))

-- the parts with the changed frame and the views over it
pub rows-committed :
    (frames : List FrameParts) (views now : List View) (r : StagedFrame) (accepted deleted more_accepted more_deleted : ℕ) (of_accepted of_deleted : ℕ × ℕ) →
    IsCatalogue (state_of (schemas_of frames) (states_of frames) views) views accepted deleted of_accepted of_deleted →
    IsStagedFrame frames views r → headings now ≡ headings views → AreLive now (tagged_frames (states_of (frames_with frames r))) →
    more_accepted ≡ accepted + r.accepted → more_deleted ≡ deleted + r.deleted →
    (state_of (schemas_of (frames_with frames r)) (states_of (frames_with frames r)) now ≡ state_with_rows frames views r)
    × IsCatalogue (state_of (schemas_of (frames_with frames r)) (states_of (frames_with frames r)) now) now more_accepted more_deleted of_accepted of_deleted
rows-committed frames views now r accepted deleted more_accepted more_deleted of_accepted of_deleted h k same_views live counted gone =
    let new : List FrameParts = frames_with frames r in
    let old_plans = subst (λ ss. AllByRecursion (λ h. IsPlanOver ss h.1) (headings views)) (sym k.schemas) (headings-plans (IsPlanOver (schemas_of frames)) views h.legal.plans) in
    let plans = subst (AllByRecursion (λ h. IsPlanOver (schemas_of new) h.1)) (sym same_views) old_plans in
    let tables : map view_state now ≡ refreshed_views (states_of new) (map view_state views) =
    views-live (schemas_of new) (states_of new) now k.legal.frames plans live
    ∙ (ap (map (λ h. view_over (states_of new) h.0 h.1)) same_views ∙ sym (refreshed-headings (states_of new) views)) in
    let same : state_of (schemas_of new) (states_of new) now ≡ state_with_rows frames views r =
    ap (λ ws. record { schemas = schemas_of new; frames = states_of new; views = ws }) tables in
    let spare = ap (λ ss. parts_of_no_desk (length ss)) (sym k.schemas) in (
      same,
      record {
        legal = subst IsLegal (sym same) k.legal;
        live = live;
        books_accepted = counted ∙ (ap (λ n. n + r.accepted) h.books_accepted ∙ sym k.accepted);
        books_deleted = gone ∙ (ap (λ n. n + r.deleted) h.books_deleted ∙ sym k.deleted);
        accepted_of_no_desk = h.accepted_of_no_desk ∙ ap (λ n. (n, 0)) spare;
        deleted_of_no_desk = h.deleted_of_no_desk ∙ ap (λ n. (n, 0)) spare;
      },
    )

-- the parts with one view more
pub view-committed :
    (frames : List FrameParts) (views : List View) (capacity : ℕ) (v : View) (accepted deleted : ℕ) (of_accepted of_deleted : ℕ × ℕ) →
    IsCatalogue (state_of (schemas_of frames) (states_of frames) views) views accepted deleted of_accepted of_deleted →
    IsNewView frames views capacity v →
    IsCatalogue (state_of (schemas_of frames) (states_of frames) (views ++ v ∷ [])) (views ++ v ∷ []) accepted deleted of_accepted of_deleted
view-committed frames views capacity v accepted deleted of_accepted of_deleted h k = record {
  legal = k.legal;
  live = live_push views v (tagged_frames (states_of frames)) h.live k.live;
  books_accepted = h.books_accepted;
  books_deleted = h.books_deleted;
  accepted_of_no_desk = h.accepted_of_no_desk;
  deleted_of_no_desk = h.deleted_of_no_desk;
}

-- and with one view less
pub removal-committed :
    (frames : List FrameParts) (views : List View) (at : ℕ) (accepted deleted : ℕ) (of_accepted of_deleted : ℕ × ℕ) →
    IsCatalogue (state_of (schemas_of frames) (states_of frames) views) views accepted deleted of_accepted of_deleted →
    IsOldView frames views at →
    IsCatalogue (state_of (schemas_of frames) (states_of frames) (remove views at)) (remove views at) accepted deleted of_accepted of_deleted
removal-committed frames views at accepted deleted of_accepted of_deleted h k = record {
  legal = k.legal;
  live = live-removed views at (tagged_frames (states_of frames)) h.live;
  books_accepted = h.books_accepted;
  books_deleted = h.books_deleted;
  accepted_of_no_desk = h.accepted_of_no_desk;
  deleted_of_no_desk = h.deleted_of_no_desk;
}

-- a catalogue over which nothing is staged
pub nothing-staged :
    (frames : List FrameParts) (views : List View) (capacity : ℕ) (o : Option Staging) (accepted deleted : ℕ) (of_accepted of_deleted : ℕ × ℕ) → o ≡ None →
    IsCatalogue (state_of (schemas_of frames) (states_of frames) views) views accepted deleted of_accepted of_deleted →
    IsSoundCatalogue frames views capacity o accepted deleted of_accepted of_deleted
nothing-staged frames views capacity o accepted deleted of_accepted of_deleted none h =
    record { parts = h; staging = subst (λ p. IfSome p (IsStaging frames views capacity)) (sym none) tt }

-- what the commit of what is staged makes of a catalogue
pub committed :
    (frames : List FrameParts) (views : List View) (state : State) (work : Meter) (o : Option Staging) (s : Staging) (keeps : Bool) (changes : List (Option Changes))
    (old new : CatalogueParts) →
    record { state = state; work = work; staged = option_map (staged_parts frames views work) o; keeps = keeps; changes = changes } ≡ old → o ≡ Some s →
    new.state ≡ staged_state frames views s → new.work ≡ staged_work work s → new.staged ≡ None → IsLegal new.state → new.keeps ≡ keeps →
    new.changes ≡ staged_changes views s → IsCommit old new
committed frames views state work o s keeps changes old new told is e w none legal same kept =
    subst (λ (c : CatalogueParts). IsCommit c new) told
    (subst (λ p. IsCommit (record { state = state; work = work; staged = option_map (staged_parts frames views work) p; keeps = keeps; changes = changes }) new) (sym is)
    (record { state = e; work = w; changes = kept; keeps = same; nothing = none; legal = legal }))

-- a catalogue over which this is staged
pub something-staged :
    (frames : List FrameParts) (views : List View) (capacity : ℕ) (o : Option Staging) (s : Staging) (accepted deleted : ℕ) (of_accepted of_deleted : ℕ × ℕ) →
    o ≡ Some s → IsCatalogue (state_of (schemas_of frames) (states_of frames) views) views accepted deleted of_accepted of_deleted →
    IsStaging frames views capacity s → IsSoundCatalogue frames views capacity o accepted deleted of_accepted of_deleted
something-staged frames views capacity o s accepted deleted of_accepted of_deleted is h k =
    record { parts = h; staging = subst (λ p. IfSome p (IsStaging frames views capacity)) (sym is) k }

-- nothing is staged where callers see nothing staged
pub none-staged :
    (frames : List FrameParts) (views : List View) (work : Meter) (o : Option Staging) → option_map (staged_parts frames views work) o ≡ None → o ≡ None
none-staged frames views work None h = refl
none-staged frames views work (Some s) h = cc
