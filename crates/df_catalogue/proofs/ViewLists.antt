-- A view that was prepared or committed takes its place among the others.
use Rattle.std.proofs.Common.{◌≡◌, ℕ, zero, suc, ◌<◌, ◌≤◌, List, [], ◌∷◌, ◌++◌, length, get_or, set, refl, sym, ap, subst, ◌∙◌, arith}
use Rattle.std.proofs.lemmas.List.{length-map, length-set}
use Rattle.df_column.specs.Tables.{TaggedRows}
use Rattle.df_delta.specs.Deltas.{Changes}
use Rattle.df_plan.specs.CheckedParts.{CheckedParts}
use Rattle.df_live.specs.declared.view.StagedView.{StagedView}
use Rattle.df_live.specs.Views.{HasRoomFor, IsChangeOf, IsLive, LeadsTo}
use Rattle.df_catalogue.specs.declared.views.View.{View}
use Rattle.df_catalogue.specs.LiveViews.{headings, AreChangesOf, AreLive, AreStaged, HaveRoom}
use Rattle.std.proofs.Common.{inl, inr}
use Rattle.std.proofs.lemmas.List.{get_or-set_same, get_or-set_other}
use Rattle.df_state.proofs.Partners.{map_set, all_set, pairs_push, pairs_pop, pairs_last, length-last, same_or_not, last_item, earlier_item}

pub headings_set :
    (views : List View) (i : ℕ) (v d : View) → v.name ≡ (get_or views i d).name → v.live.plan ≡ (get_or views i d).live.plan →
    headings (set views i v) ≡ headings views
headings_set views i v d e f = map_set (λ v. (v.name, v.live.plan)) views i v d (λ j. (e j, f j))

pub live_set : (views : List View) (i : ℕ) (v : View) (frames : List TaggedRows) → i < length views → AreLive views frames → IsLive v.live frames → AreLive (set views i v) frames
live_set views i v frames lt h new = record {
  at = λ k d below. all_set (λ v. IsLive v.live frames) views i v lt h.at new k d (omega (arith, below, length-set views i v));
}

pub staged_push :
    (views : List View) (staged : List StagedView) (i : ℕ) (v : View) (s : StagedView) (frames : List TaggedRows) → length staged ≡ i → i < length views →
    AreStaged views staged frames → LeadsTo v.live s frames → AreStaged (set views i v) (staged ++ s ∷ []) frames
staged_push views staged i v s frames count lt h new =
    subst (λ (j : ℕ). AreStaged (set views j v) (staged ++ s ∷ []) frames) count
    (record { at = pairs_push (λ v s. LeadsTo v.live s frames) views staged v s (omega (arith, count, lt)) h.at new })

pub room_push :
    (views : List View) (staged : List StagedView) (i : ℕ) (v : View) (s : StagedView) → length staged ≡ i → i < length views →
    HaveRoom views staged → HasRoomFor v.live s → HaveRoom (set views i v) (staged ++ s ∷ [])
room_push views staged i v s count lt h new =
    subst (λ (j : ℕ). HaveRoom (set views j v) (staged ++ s ∷ [])) count
    (record { at = pairs_push (λ v s. HasRoomFor v.live s) views staged v s (omega (arith, count, lt)) h.at new })

pub room_pop : (views : List View) (staged : List StagedView) (v : View) (s : StagedView) → HaveRoom views (staged ++ s ∷ []) → HaveRoom (set views (length staged) v) staged
room_pop views staged v s h = record { at = pairs_pop (λ v s. HasRoomFor v.live s) views staged v s h.at }

pub staged_last :
    (views : List View) (staged : List StagedView) (s : StagedView) (d : View) (frames : List TaggedRows) →
    AreStaged views (staged ++ s ∷ []) frames → LeadsTo (get_or views (length staged) d).live s frames
staged_last views staged s d frames h = pairs_last (λ v s. LeadsTo v.live s frames) views staged s d h.at

pub staged_pop :
    (views : List View) (staged : List StagedView) (v : View) (s : StagedView) (frames : List TaggedRows) →
    AreStaged views (staged ++ s ∷ []) frames → AreStaged (set views (length staged) v) staged frames
staged_pop views staged v s frames h = record { at = pairs_pop (λ v s. LeadsTo v.live s frames) views staged v s h.at }

pub live_more :
    (views : List View) (staged : List StagedView) (v : View) (s : StagedView) (frames : List TaggedRows) → length staged < length views →
    ((k : ℕ) (d : View) → length (staged ++ s ∷ []) ≤ k → k < length views → IsLive (get_or views k d).live frames) → IsLive v.live frames →
    (k : ℕ) (d : View) → length staged ≤ k → k < length (set views (length staged) v) → IsLive (get_or (set views (length staged) v) k d).live frames
live_more views staged v s frames lt all new k d from below =
    elim (same_or_not k (length staged)) [
      | inl is ↦ subst (λ w. IsLive w.live frames) (sym (ap (λ j. get_or (set views (length staged) v) j d) is ∙ get_or-set_same views (length staged) v d lt)) new
      | inr n ↦
          subst (λ w. IsLive w.live frames) (sym (get_or-set_other views (length staged) k v d n))
          (all k d (omega (arith, from, n, length-last staged s)) (omega (arith, below, length-set views (length staged) v)))
    ]

pub live_push : (views : List View) (v : View) (frames : List TaggedRows) → AreLive views frames → IsLive v.live frames → AreLive (views ++ v ∷ []) frames
live_push views v frames h new = record {
  at = λ k d below.
      elim (same_or_not k (length views)) [
        | inl is ↦ subst (λ w. IsLive w.live frames) (sym (ap (λ j. get_or (views ++ v ∷ []) j d) is ∙ last_item views v d)) new
        | inr n ↦
            let less : k < length views = omega (arith, below, n, length-last views v) in
            subst (λ w. IsLive w.live frames) (sym (earlier_item views v d k less)) (h.at k d less)
      ];
}

heading-at : (views : List View) (k : ℕ) (e : View) → get_or (headings views) k (e.name, e.live.plan) ≡ ((get_or views k e).name, (get_or views k e).live.plan)
heading-at [] k e = refl
heading-at (v ∷ vs) zero e = refl
heading-at (v ∷ vs) (suc k) e = heading-at vs k e

-- changes of the frames of these views are those of views with the same plans
pub changes_same :
    (views others : List View) (frames : List TaggedRows) (f : ℕ) (d : Changes) → headings views ≡ headings others → AreChangesOf others frames f d → AreChangesOf views frames f d
changes_same views others frames f d same h =
    let long = length-map {B = List ℕ × CheckedParts} views (λ v. (v.name, v.live.plan)) in
    let other_long = length-map {B = List ℕ × CheckedParts} others (λ v. (v.name, v.live.plan)) in
    let alike = ap length same in record {
      at = λ k e below.
          subst (λ (x : List ℕ × CheckedParts). IsChangeOf x.1.frames frames f d)
          (sym (heading-at others k e) ∙ (ap (λ hs. get_or hs k (e.name, e.live.plan)) (sym same) ∙ heading-at views k e))
          (h.at k e (omega (arith, below, long, other_long, alike)));
    }
