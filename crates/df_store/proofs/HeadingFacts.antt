-- The views that a load registers stand last, one behind the other, and stay where chunks are appended.
use Rattle.std.proofs.Common.{◌≡◌, ℕ, ◌+◌, ◌≤◌, ◌∙◌, List, [], ◌∷◌, ◌++◌, length, map, take, refl, ap, sym, subst}
use Rattle.std.specs.Prelude.{Ok, Some, slice_get, unwrap_or}
use Rattle.std.proofs.lemmas.List.{append_assoc, append-nil, map-append}
use Rattle.df_value.specs.Chunks.{ChunkParts}
use Rattle.df_plan.specs.CheckedParts.{CheckedParts}
use Rattle.df_frame.specs.Frames.{with_chunk}
use Rattle.df_frame.specs.declared.state.FrameState.{FrameState}
use Rattle.df_state.specs.declared.change.Change.TheVariants.{Append, Register}
use Rattle.df_state.specs.declared.state.State.{State}
use Rattle.df_state.specs.declared.state.ViewState.{ViewState}
use Rattle.df_state.specs.Changes.{after, change_at, refreshed_views, view_over}
use Rattle.df_state.proofs.ListFacts.{take-all, take-one-more}
use Rattle.df_versions.specs.Answered.{AnswersChange, ChangesHistory}
use Rattle.df_store.specs.Headings.{HasLastViews, HaveLastViews, IsRegistered, headings_of}
use Rattle.df_store.proofs.StepFacts.{stepped}

abbrev headings : List ViewState → List (List ℕ × CheckedParts)
headings vs = map (λ v. (v.name, v.plan)) vs

headings-refreshed : (frames : List FrameState) (vs : List ViewState) → headings (refreshed_views frames vs) ≡ headings vs
headings-refreshed frames [] = refl
headings-refreshed frames (v ∷ vs) = ap (λ (l : List (List ℕ × CheckedParts)). (v.name, v.plan) ∷ l) (headings-refreshed frames vs)

pub headings-appended : (s : State) (frame : ℕ) (c : ChunkParts) → headings_of (after s (Append frame c)) ≡ headings_of s
headings-appended s frame c = headings-refreshed (change_at frame (with_chunk c) s.frames) s.views

headings-registered : (s : State) (name : List ℕ) (p : CheckedParts) → headings_of (after s (Register name p)) ≡ headings_of s ++ (name, p) ∷ []
headings-registered s name p =
    map-append {B = List ℕ × CheckedParts} (λ (v : ViewState). (v.name, v.plan)) (refreshed_views s.frames s.views) (view_over s.frames name p ∷ [])
    ∙ ap (λ (l : List (List ℕ × CheckedParts)). l ++ (name, p) ∷ []) (headings-refreshed s.frames s.views)

-- an answer to the registration of a view at Ok
pub registered-one :
    {J : Type 0} (old new : List State) (floor : ℕ) (view : List ℕ × CheckedParts) (name : List ℕ) (plan : CheckedParts) (told : List State) →
    name ≡ view.0 → plan ≡ view.1 → AnswersChange {J = J} old floor (Register name plan) (Ok told) → ChangesHistory {J = J} old (Ok told) new →
    IsRegistered view old new
registered-one old new floor view name plan told is same answer changes =
    let step = stepped old new floor (Register name plan) told answer changes in
    record {
      before = step.0;
      was = step.1;
      is = step.3 ∙ (ap (λ (n : List ℕ). Some (after step.0 (Register n plan))) is ∙ ap (λ (p : CheckedParts). Some (after step.0 (Register view.0 p))) same);
    }

-- none of the views stands last in any state
pub none-registered : (views : List (List ℕ × CheckedParts)) (history : List State) → HaveLastViews (take 0 views) history
none-registered views history = λ s ends. record { others = headings_of s; are = sym (append-nil (headings_of s)) }

one-more :
    (s : State) (views : List (List ℕ × CheckedParts)) (at : ℕ) (view : List ℕ × CheckedParts) → HasLastViews (take at views) s →
    slice_get views at ≡ Some view → HasLastViews (take (at + 1) views) (after s (Register view.0 view.1))
one-more s views at view h given = record {
  others = h.others;
  are = headings-registered s view.0 view.1
      ∙ (ap (λ (l : List (List ℕ × CheckedParts)). l ++ view ∷ []) h.are
      ∙ (append_assoc h.others (take at views) (view ∷ [])
      ∙ ap (λ (l : List (List ℕ × CheckedParts)). h.others ++ l) (sym (take-one-more views at view given))));
}

-- the next view was registered
pub next-registered :
    (old new : List State) (views : List (List ℕ × CheckedParts)) (at : ℕ) (view : List ℕ × CheckedParts) → HaveLastViews (take at views) old →
    slice_get views at ≡ Some view → IsRegistered view old new → HaveLastViews (take (at + 1) views) new
next-registered old new views at view h given is = λ s ends.
    let same : after is.before (Register view.0 view.1) ≡ s = ap (λ o. unwrap_or o s) (sym is.is ∙ ends) in
    subst (HasLastViews (take (at + 1) views)) same (one-more is.before views at view (h is.before is.was) given)

-- all were
pub all-registered :
    (history : List State) (views : List (List ℕ × CheckedParts)) (at : ℕ) → length views ≤ at → HaveLastViews (take at views) history →
    HaveLastViews views history
all-registered history views at many h = subst (λ vs. HaveLastViews vs history) (take-all views at many) h
