-- The rows of a view of a legal state are those of its plan over the frames.
use Rattle.std.proofs.Common.{◌≡◌, ◌∙◌, true, false, ℕ, List, [], ◌∷◌, cond, map, refl, ap, sym}
use Rattle.std.specs.Prelude.{Some, Ok, bytes_eq, ok_or, option_map}
use Rattle.df_plan.specs.CheckedParts.{CheckedParts}
use Rattle.df_state.specs.declared.fault.CatalogueFault.TheVariants as fault
use Rattle.df_frame.specs.declared.state.FrameState.{FrameState}
use Rattle.df_state.specs.declared.state.State.{State}
use Rattle.df_state.specs.declared.state.ViewState.{ViewState}
use Rattle.df_state.specs.Reads.{view_named, view_rows_of}
use Rattle.df_state.specs.States.{IsLegal, value_over}

same_rows :
    (frames : List FrameState) (name : List ℕ) (views : List ViewState) → map (λ v. v.table) views ≡ map (λ v. value_over frames v.plan) views →
    option_map (λ v. v.table) (view_named name views) ≡ option_map (value_over frames) (option_map (λ v. v.plan) (view_named name views))
same_rows frames name [] e = refl
same_rows frames name (v ∷ vs) e =
    let first : v.table ≡ value_over frames v.plan = cc in
    let later : map (λ v. v.table) vs ≡ map (λ v. value_over frames v.plan) vs = cc in
    elim (bytes_eq v.name name) as (λ b.
    option_map (λ (w : ViewState). w.table) (cond b (Some v) (view_named name vs))
    ≡ option_map (value_over frames) (option_map (λ (w : ViewState). w.plan) (cond b (Some v) (view_named name vs)))) [
      | true ↦ ap Some first
      | false ↦ same_rows frames name vs later
    ]

pub computed :
    (s : State) (name : List ℕ) (p : CheckedParts) → IsLegal s → Some p ≡ option_map (λ v. v.plan) (view_named name s.views) →
    view_rows_of s name ≡ Ok (value_over s.frames p)
computed s name p h e = ap (λ o. ok_or o fault.NoView) (same_rows s.frames name s.views h.tables ∙ ap (option_map (value_over s.frames)) (sym e))
