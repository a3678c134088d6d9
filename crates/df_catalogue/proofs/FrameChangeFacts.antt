-- What a catalogue's parts are after a change of one frame that is not refused: the parts of the state after it, and sound.
use Rattle.std.proofs.Common.{◌≡◌, ℕ, ◌<◌, ◌∙◌, List, map, length, ap, sym, subst, arith, get_or}
use Rattle.std.specs.Prelude.{IsTrue, None, slice_set}
use Rattle.std.specs.List.{AllByRecursion, AllZip}
use Rattle.std.proofs.lemmas.List.{length-map}
use Rattle.df_value.specs.declared.cell.CellType.{CellType}
use Rattle.df_value.specs.Rows.{rows_fit}
use Rattle.df_delta.specs.Deltas.{Changes}
use Rattle.df_delta.specs.Differences.{IsDiff}
use Rattle.df_live.specs.Frames.{changed}
use Rattle.df_state.specs.declared.state.State.{State}
use Rattle.df_frame.specs.declared.state.FrameState.{FrameState}
use Rattle.df_catalogue.specs.declared.views.View.{View}
use Rattle.df_frame.specs.declared.frame_change.FrameChange.{FrameChange}
use Rattle.df_state.specs.Changes.{after, change_at, view_over, IsSound}
use Rattle.df_state.specs.FrameChanges.{change_of}
use Rattle.df_frame.specs.FrameChanges.{frame_after}
use Rattle.df_frame.specs.FrameParts.{FrameParts, schemas_of, states_of}
use Rattle.df_frame.specs.Frames.{rows_of, IsFrame}
use Rattle.df_frame.specs.FrameTables.{tagged_rows_of}
use Rattle.df_catalogue.specs.LiveViews.{headings, tagged_frames, view_state, AreChangesOf, AreLive}
use Rattle.df_catalogue.specs.Parts.{state_of, IsCatalogue}
use Rattle.df_state.specs.Refusals.{refusal_of}
use Rattle.df_state.specs.States.{IsLegal, IsPlanOver}
use Rattle.df_state.proofs.Legal.{legal-after}
use Rattle.df_catalogue.proofs.LiveFacts.{are-changes, headings-plans, is-change, tagged-changed, views-live}
use Rattle.df_state.proofs.StateFacts.{change-set}
use Rattle.df_state.proofs.FrameChangeFacts.{IsChangeable, changeable, free-of, lent-map, after-frame, sound-after}

abbrev Columns : Type 0
Columns = List (List ℕ × CellType)

pub changeable-of :
    (frames : List FrameParts) (views : List View) (t : State) (f g : ℕ) (c : FrameChange) (x : FrameParts) →
    state_of (schemas_of frames) (states_of frames) views ≡ t → f ≡ g → IsLegal (state_of (schemas_of frames) (states_of frames) views) →
    refusal_of t (change_of g c) ≡ None → x ≡ get_or frames f x → IsChangeable (state_of (schemas_of frames) (states_of frames) views) f c x.state
changeable-of frames views t f g c x same place h free lent =
    changeable (state_of (schemas_of frames) (states_of frames) views) f c x.state h (free-of _ t f g c same place free)
    (lent-map (λ y. y.state) frames f x lent)

-- the frame's rows fit its schema after it
pub fits-after :
    (frames : List FrameParts) (views : List View) (f : ℕ) (c : FrameChange) (x : FrameParts) →
    IsLegal (state_of (schemas_of frames) (states_of frames) views) → IsSound (change_of f c) →
    refusal_of (state_of (schemas_of frames) (states_of frames) views) (change_of f c) ≡ None →
    IsChangeable (state_of (schemas_of frames) (states_of frames) views) f c x.state → x ≡ get_or frames f x →
    IsTrue (rows_fit x.schema (rows_of (frame_after x.state c)))
fits-after frames views f c x h sound free known lent =
    let s : State = state_of (schemas_of frames) (states_of frames) views in
    let legal : IsLegal (after s (change_of f c)) = legal-after s (change_of f c) h sound free in
    let within : f < length frames = let long = length-map frames (λ y. y.state) in omega (arith, long, known.within) in
    let sound-frames : AllZip IsFrame (schemas_of frames) (change_at f (λ y. frame_after y c) (states_of frames)) =
    subst (λ (t : State). AllZip IsFrame t.schemas t.frames) (after-frame s f c) legal.frames in
    (sound-after frames f (λ y. frame_after y c) x sound-frames lent within).fitting

-- the delta of the frame's change is one of the frames, and each view's plan is over them
pub delta-changes :
    (frames : List FrameParts) (views : List View) (f : ℕ) (c : FrameChange) (x : FrameParts) (d : Changes) →
    IsLegal (state_of (schemas_of frames) (states_of frames) views) → IsSound (change_of f c) →
    refusal_of (state_of (schemas_of frames) (states_of frames) views) (change_of f c) ≡ None →
    IsChangeable (state_of (schemas_of frames) (states_of frames) views) f c x.state →
    IsDiff (tagged_rows_of x.state) (tagged_rows_of (frame_after x.state c)) d →
    AreChangesOf views (tagged_frames (states_of frames)) f d
    × (changed (tagged_frames (states_of frames)) f d ≡ tagged_frames (slice_set (states_of frames) f (frame_after x.state c)))
delta-changes frames views f c x d h sound free known diff =
    let s : State = state_of (schemas_of frames) (states_of frames) views in
    let change : FrameState → FrameState = λ x. frame_after x c in
    let legal : IsLegal (after s (change_of f c)) = legal-after s (change_of f c) h sound free in
    let at : slice_set (states_of frames) f (frame_after x.state c) ≡ change_at f change (states_of frames) = sym (change-set change (states_of frames) f x.state known.at) in
    let after_sound : AllZip IsFrame (schemas_of frames) (slice_set (states_of frames) f (frame_after x.state c)) =
    subst (AllZip IsFrame (schemas_of frames)) (sym at) (subst (λ (t : State). AllZip IsFrame t.schemas t.frames) (after-frame s f c) legal.frames) in
    let is = is-change (schemas_of frames) (states_of frames) f x.state (frame_after x.state c) d h.frames after_sound known.within known.at diff in (
      are-changes (schemas_of frames) views (tagged_frames (states_of frames)) f d (headings-plans (IsPlanOver (schemas_of frames)) views h.plans) is,
      tagged-changed (states_of frames) f x.state (frame_after x.state c) d known.at diff,
    )

-- the parts where the views stand as they stood
pub views-kept :
    (schemas : List Columns) (frames : List FrameState) (views now : List View) (accepted deleted : ℕ) (of_accepted of_deleted : ℕ × ℕ) →
    IsCatalogue (state_of schemas frames views) views accepted deleted of_accepted of_deleted → headings now ≡ headings views → AreLive now (tagged_frames frames) →
    (state_of schemas frames now ≡ state_of schemas frames views) × IsCatalogue (state_of schemas frames now) now accepted deleted of_accepted of_deleted
views-kept schemas frames views now accepted deleted of_accepted of_deleted h same_views live =
    let old_plans = headings-plans (IsPlanOver schemas) views h.legal.plans in
    let plans = subst (AllByRecursion (λ h. IsPlanOver schemas h.1)) (sym same_views) old_plans in
    let tables : map view_state now ≡ map view_state views =
    views-live schemas frames now h.legal.frames plans live
    ∙ (ap (map (λ h. view_over frames h.0 h.1)) same_views ∙ sym (views-live schemas frames views h.legal.frames old_plans h.live)) in
    let same : state_of schemas frames now ≡ state_of schemas frames views = ap (λ ws. record { schemas = schemas; frames = frames; views = ws }) tables in (
      same,
      record {
        legal = subst IsLegal (sym same) h.legal;
        live = live;
        books_accepted = h.books_accepted;
        books_deleted = h.books_deleted;
        accepted_of_no_desk = h.accepted_of_no_desk;
        deleted_of_no_desk = h.deleted_of_no_desk;
      },
    )
