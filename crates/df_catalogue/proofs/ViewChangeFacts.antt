-- What a catalogue's parts are after a change of its views that is not refused: the parts of the state after it, and sound.
use Rattle.std.proofs.Common.{◌≡◌, ℕ, ◌<◌, zero, suc, ◌∙◌, List, [], ◌∷◌, ◌++◌, length, map, get_or, refl, ap, sym, subst, arith}
use Rattle.std.specs.Prelude.{not, Ok, Some, None, bytes_eq, position, remove}
use Rattle.std.proofs.lemmas.List.{map-append}
use Rattle.df_value.specs.declared.cell.CellType.{CellType}
use Rattle.df_column.specs.Tables.{TaggedRows}
use Rattle.df_plan.specs.Checks.{plan_check}
use Rattle.df_live.specs.Views.{IsLive}
use Rattle.df_state.specs.declared.state.State.{State}
use Rattle.df_frame.specs.declared.state.FrameState.{FrameState}
use Rattle.df_state.specs.declared.state.ViewState.{ViewState}
use Rattle.df_catalogue.specs.declared.views.View.{View}
use Rattle.df_state.specs.declared.change.Change.TheVariants.{Register, DropView}
use Rattle.df_state.specs.declared.fault.CatalogueFault.TheVariants as fault
use Rattle.df_state.specs.States.{IsLegal}
use Rattle.df_state.specs.Refusals.{refusal_of, reason_if}
use Rattle.df_state.specs.Changes.{after, refreshed_views, view_over, without_view}
use Rattle.df_catalogue.specs.LiveViews.{tagged_frames, view_state, AreLive}
use Rattle.df_catalogue.specs.Parts.{state_of, IsCatalogue}
use Rattle.df_state.proofs.Legal.{legal-after, register-accepted}
use Rattle.df_catalogue.proofs.LiveFacts.{view-live}
use Rattle.df_state.proofs.Places.{any-found}
use Rattle.df_state.proofs.StateFacts.{left-found}
use Rattle.df_state.proofs.ViewFacts.{refreshed_views-same, tables-filter}
use Rattle.df_catalogue.proofs.ViewLists.{live_push}

abbrev Columns : Type 0
Columns = List (List ℕ × CellType)

-- what callers see of the views without that of one place
states-removed : (vs : List View) (i : ℕ) → map view_state (remove vs i) ≡ remove (map view_state vs) i
states-removed [] zero = refl
states-removed [] (suc i) = refl
states-removed (v ∷ vs) zero = refl
states-removed (v ∷ vs) (suc i) = ap (λ ws. view_state v ∷ ws) (states-removed vs i)

live-others : (v : View) (vs : List View) (frames : List TaggedRows) → AreLive (v ∷ vs) frames → AreLive vs frames
live-others v vs frames h = record { at = λ k d below. h.at (suc k) d (omega (arith, below)) }

live-with : (v : View) (vs : List View) (frames : List TaggedRows) → IsLive v.live frames → AreLive vs frames → (k : ℕ) (d : View) → k < length (v ∷ vs) →
    IsLive (get_or (v ∷ vs) k d).live frames
live-with v vs frames new h zero d below = new
live-with v vs frames new h (suc k) d below = h.at k d (omega (arith, below))

-- the others stand over the frames as they did
pub live-removed : (vs : List View) (i : ℕ) (frames : List TaggedRows) → AreLive vs frames → AreLive (remove vs i) frames
live-removed [] zero frames h = h
live-removed [] (suc i) frames h = h
live-removed (v ∷ vs) zero frames h = live-others v vs frames h
live-removed (v ∷ vs) (suc i) frames h =
    record { at = live-with v (remove vs i) frames (h.at 0 v (omega arith)) (live-removed vs i frames (live-others v vs frames h)) }

-- the views of a catalogue without that of one place: its name is there, and it is the state after it was dropped
pub dropped :
    (schemas : List Columns) (frames : List FrameState) (views : List View) (at : ℕ) (name : List ℕ)
    (accepted deleted : ℕ) (of_accepted of_deleted : ℕ × ℕ) →
    IsCatalogue (state_of schemas frames views) views accepted deleted of_accepted of_deleted →
    position (λ v. bytes_eq v.name name) (map view_state views) ≡ Some at →
    (refusal_of (state_of schemas frames views) (DropView name) ≡ None)
    × (state_of schemas frames (remove views at) ≡ after (state_of schemas frames views) (DropView name))
    × IsCatalogue (state_of schemas frames (remove views at)) (remove views at) accepted deleted of_accepted of_deleted
dropped schemas frames views at name accepted deleted of_accepted of_deleted h found =
    let s : State = state_of schemas frames views in
    let ws : List ViewState = map view_state views in
    let free : refusal_of s (DropView name) ≡ None = ap (λ b. reason_if (not b) fault.NoView) (any-found (λ v. bytes_eq v.name name) ws at found) in
    let left : without_view name ws ≡ remove ws at = left-found name ws at h.legal.names found in
    let refreshed_views' : refreshed_views frames (without_view name ws) ≡ without_view name ws =
    refreshed_views-same frames (without_view name ws) (tables-filter frames (λ v. not (bytes_eq v.name name)) ws h.legal.tables) in
    let same : state_of schemas frames (remove views at) ≡ after s (DropView name) =
    ap (λ us. record { schemas = schemas; frames = frames; views = us }) (states-removed views at ∙ (sym left ∙ sym refreshed_views')) in (
      free,
      same,
      record {
        legal = subst IsLegal (sym same) (legal-after s (DropView name) h.legal tt free);
        live = live-removed views at (tagged_frames frames) h.live;
        books_accepted = h.books_accepted;
        books_deleted = h.books_deleted;
        accepted_of_no_desk = h.accepted_of_no_desk;
        deleted_of_no_desk = h.deleted_of_no_desk;
      },
    )

-- the views of a catalogue with one more
pub registered :
    (schemas : List Columns) (frames : List FrameState) (views : List View) (view : View)
    (accepted deleted : ℕ) (of_accepted of_deleted : ℕ × ℕ) →
    IsCatalogue (state_of schemas frames views) views accepted deleted of_accepted of_deleted →
    plan_check view.live.plan.plan view.live.plan.frames ≡ Ok view.live.plan.schema → refusal_of (state_of schemas frames views) (Register view.name view.live.plan) ≡ None →
    IsLive view.live (tagged_frames frames) →
    (state_of schemas frames (views ++ view ∷ []) ≡ after (state_of schemas frames views) (Register view.name view.live.plan))
    × IsCatalogue (state_of schemas frames (views ++ view ∷ [])) (views ++ view ∷ []) accepted deleted of_accepted of_deleted
registered schemas frames views view accepted deleted of_accepted of_deleted h sound free live =
    let s : State = state_of schemas frames views in
    let ws : List ViewState = map view_state views in
    let known = register-accepted view.name view.live.plan s free in
    let new = view-live schemas frames view h.legal.frames (record { frames = known.2; checks = sound }) live in
    let same : state_of schemas frames (views ++ view ∷ []) ≡ after s (Register view.name view.live.plan) =
    ap (λ us. record { schemas = schemas; frames = frames; views = us })
    (map-append view_state views (view ∷ [])
    ∙ (ap (λ w. ws ++ w ∷ []) new
    ∙ ap (λ us. us ++ view_over frames view.name view.live.plan ∷ []) (sym (refreshed_views-same frames ws h.legal.tables)))) in (
      same,
      record {
        legal = subst IsLegal (sym same) (legal-after s (Register view.name view.live.plan) h.legal sound free);
        live = live_push views view (tagged_frames frames) h.live live;
        books_accepted = h.books_accepted;
        books_deleted = h.books_deleted;
        accepted_of_no_desk = h.accepted_of_no_desk;
        deleted_of_no_desk = h.deleted_of_no_desk;
      },
    )
