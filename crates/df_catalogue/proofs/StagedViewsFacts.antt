-- What is staged for a view that comes or goes leads to the state after it.
use Rattle.std.proofs.Common.{◌≡◌, ℕ, ◌<◌, ◌∙◌, List, [], ◌∷◌, ◌++◌, length, map, refl, ap, sym, subst}
use Rattle.std.specs.Prelude.{Ok, Some, None, bytes_eq, position}
use Rattle.std.proofs.lemmas.List.{length-map}
use Rattle.df_expr.specs.declared.meter.Meter.{Meter}
use Rattle.df_plan.specs.Checks.{plan_check}
use Rattle.df_live.specs.Views.{IsLive}
use Rattle.df_state.specs.declared.change.Change.TheVariants.{Register, DropView}
use Rattle.df_catalogue.specs.declared.staging.Staging.TheVariants.{NewView, OldView}
use Rattle.df_state.specs.declared.state.CatalogueParts.{CatalogueParts}
use Rattle.df_state.specs.declared.state.State.{State}
use Rattle.df_state.specs.declared.state.ViewState.{ViewState}
use Rattle.df_catalogue.specs.declared.views.View.{View}
use Rattle.df_state.specs.Changes.{after}
use Rattle.df_frame.specs.FrameParts.{FrameParts, schemas_of, states_of}
use Rattle.df_catalogue.specs.LiveViews.{tagged_frames, view_state}
use Rattle.df_catalogue.specs.Parts.{state_of, IsCatalogue}
use Rattle.df_state.specs.Refusals.{refusal_of}
use Rattle.df_catalogue.specs.StagedChanges.{IsStagedFor}
use Rattle.df_catalogue.specs.Staging.{staged_parts, staged_state, IsNewView, IsOldView}
use Rattle.df_state.specs.States.{IsLegal}
use Rattle.df_state.proofs.Places.{found-within}
use Rattle.df_catalogue.proofs.ViewChangeFacts.{dropped, registered}

-- the same views by another name
pub same-views :
    (frames : List FrameParts) (views now : List View) (accepted deleted : ℕ) (of_accepted of_deleted : ℕ × ℕ) → now ≡ views →
    IsCatalogue (state_of (schemas_of frames) (states_of frames) views) views accepted deleted of_accepted of_deleted →
    IsCatalogue (state_of (schemas_of frames) (states_of frames) now) now accepted deleted of_accepted of_deleted
same-views frames views now accepted deleted of_accepted of_deleted same h =
    subst (λ vs. IsCatalogue (state_of (schemas_of frames) (states_of frames) vs) vs accepted deleted of_accepted of_deleted) (sym same) h

-- a view that is not refused, for which there is room
pub view-staged :
    (frames : List FrameParts) (views now : List View) (capacity : ℕ) (view : View) (accepted deleted : ℕ) (of_accepted of_deleted : ℕ × ℕ) (t : State) →
    now ≡ views → state_of (schemas_of frames) (states_of frames) views ≡ t →
    IsCatalogue (state_of (schemas_of frames) (states_of frames) views) views accepted deleted of_accepted of_deleted →
    plan_check view.live.plan.plan view.live.plan.frames ≡ Ok view.live.plan.schema → refusal_of t (Register view.name view.live.plan) ≡ None →
    IsLive view.live (tagged_frames t.frames) → length now < capacity →
    IsNewView frames now capacity view × (staged_state frames now (NewView view) ≡ after t (Register view.name view.live.plan))
view-staged frames views now capacity view accepted deleted of_accepted of_deleted t same told h sound free live room =
    let s : State = state_of (schemas_of frames) (states_of frames) views in
    let free' : refusal_of s (Register view.name view.live.plan) ≡ None = subst (λ u. refusal_of u (Register view.name view.live.plan) ≡ None) (sym told) free in
    let live' : IsLive view.live (tagged_frames (states_of frames)) = subst (λ (u : State). IsLive view.live (tagged_frames u.frames)) (sym told) live in
    let more = registered (schemas_of frames) (states_of frames) views view accepted deleted of_accepted of_deleted h sound free' live' in
    let is : staged_state frames now (NewView view) ≡ state_of (schemas_of frames) (states_of frames) (views ++ view ∷ []) =
    ap (λ vs. state_of (schemas_of frames) (states_of frames) (vs ++ view ∷ [])) same in (
      record { legal = subst IsLegal (sym is) more.1.legal; live = live'; room = room },
      is ∙ (more.0 ∙ ap (λ u. after u (Register view.name view.live.plan)) told),
    )

pub view-for :
    (frames : List FrameParts) (views : List View) (work : Meter) (view : View) (old : CatalogueParts) →
    staged_state frames views (NewView view) ≡ after old.state (Register view.name view.live.plan) → IsLegal (staged_state frames views (NewView view)) →
    work ≡ old.work → IsStagedFor old (Register view.name view.live.plan) (staged_parts frames views work (NewView view))
view-for frames views work view old is legal same = record { state = is; legal = legal; work = same; rows = refl; kept = refl }

-- a view that is there
pub removal-staged :
    (frames : List FrameParts) (views : List View) (at : ℕ) (name : List ℕ) (accepted deleted : ℕ) (of_accepted of_deleted : ℕ × ℕ) (t : State) →
    state_of (schemas_of frames) (states_of frames) views ≡ t →
    IsCatalogue (state_of (schemas_of frames) (states_of frames) views) views accepted deleted of_accepted of_deleted →
    position (λ v. bytes_eq v.name name) t.views ≡ Some at →
    IsOldView frames views at × (refusal_of t (DropView name) ≡ None) × (staged_state frames views (OldView at) ≡ after t (DropView name))
removal-staged frames views at name accepted deleted of_accepted of_deleted t told h found =
    let found' : position (λ v. bytes_eq v.name name) (map view_state views) ≡ Some at =
    ap (λ (u : State). position (λ (v : ViewState). bytes_eq v.name name) u.views) told ∙ found in
    let gone = dropped (schemas_of frames) (states_of frames) views at name accepted deleted of_accepted of_deleted h found' in
    let within = subst (λ n. at < n) (length-map views view_state) (found-within (λ v. bytes_eq v.name name) (map view_state views) at found') in (
      record { legal = gone.2.legal; within = within },
      subst (λ u. refusal_of u (DropView name) ≡ None) told gone.0,
      gone.1 ∙ ap (λ u. after u (DropView name)) told,
    )

pub removal-for :
    (frames : List FrameParts) (views : List View) (work : Meter) (at : ℕ) (name : List ℕ) (old : CatalogueParts) →
    staged_state frames views (OldView at) ≡ after old.state (DropView name) → IsLegal (staged_state frames views (OldView at)) →
    work ≡ old.work → IsStagedFor old (DropView name) (staged_parts frames views work (OldView at))
removal-for frames views work at name old is legal same = record { state = is; legal = legal; work = same; rows = refl; kept = refl }
