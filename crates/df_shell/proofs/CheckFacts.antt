-- No view of a legal state differs, and each name of a view finds one.
use Rattle.std.proofs.Common.{◌≡◌, ◌∙◌, ◌<◌, ℕ, zero, suc, true, false, List, [], ◌∷◌, cond, get_or, length, map, refl, ap, sym, subst, arith}
use Rattle.std.specs.Prelude.{IsOk, Some, None, Result, Ok, bytes_eq, find, not, ok_or, option_map}
use Rattle.std.proofs.lemmas.List.{length-map}
use Rattle.std.specs.Cmp.Lexicographic.{lists_equiv, nat_list_eq_equiv, pointwise}
use Rattle.df_value.specs.declared.cell.Cell.{Cell}
use Rattle.df_value.specs.Rows.{row_eq}
use Rattle.df_value.specs.RowEq.{row_eq-equivalence}
use Rattle.df_state.specs.Reads.{view_named, view_names_of, view_rows_of}
use Rattle.df_state.specs.States.{IsLegal, value_over}
use Rattle.df_state.specs.declared.fault.CatalogueFault.{CatalogueFault}
use Rattle.df_state.specs.declared.fault.CatalogueFault.TheVariants as fault
use Rattle.df_frame.specs.declared.state.FrameState.{FrameState}
use Rattle.df_state.specs.declared.state.State.{State}
use Rattle.df_state.specs.declared.state.ViewState.{ViewState}
use Rattle.df_shell.specs.Checks.{differs, first_differing}

rows_same : (rows : List (List Cell)) → pointwise row_eq rows rows ≡ true
rows_same rows = (lists_equiv row_eq-equivalence).refl rows

same_table : (frames : List FrameState) (v : ViewState) → v.table ≡ value_over frames v.plan → differs frames v ≡ false
same_table frames v e = ap (λ t. not (pointwise row_eq v.table t)) (sym e) ∙ ap not (rows_same v.table)

none_of : (frames : List FrameState) (views : List ViewState) → map (λ v. v.table) views ≡ map (λ v. value_over frames v.plan) views → find (differs frames) views ≡ None
none_of frames [] e = refl
none_of frames (v ∷ vs) e =
    let first : v.table ≡ value_over frames v.plan = cc in
    let later : map (λ v. v.table) vs ≡ map (λ v. value_over frames v.plan) vs = cc in
    ap (λ b. cond b (Some v) (find (differs frames) vs)) (same_table frames v first) ∙ none_of frames vs later

pub none_differs : (s : State) → IsLegal s → first_differing s ≡ None
none_differs s h = ap (option_map (λ v. v.name)) (none_of s.frames s.views h.tables)

found_named : (views : List ViewState) (k : ℕ) (d : List ℕ) → k < length views → IsOk (ok_or (option_map (λ v. v.table) (view_named (get_or (map (λ v. v.name) views) k d) views)) fault.NoView)
found_named [] k d lt = absurd (omega (arith, lt))
found_named (v ∷ vs) zero d lt =
    subst (λ b. IsOk (ok_or (option_map (λ (w : ViewState). w.table) (cond b (Some v) (view_named v.name vs))) fault.NoView)) (sym (nat_list_eq_equiv.refl v.name)) refl
found_named (v ∷ vs) (suc k) d lt =
    let name = get_or (map (λ (w : ViewState). w.name) vs) k d in
    elim (bytes_eq v.name name) as (λ b. IsOk (ok_or (option_map (λ (w : ViewState). w.table) (cond b (Some v) (view_named name vs))) fault.NoView)) [
      | true ↦ refl
      | false ↦ found_named vs k d (omega (arith, lt))
    ]

-- the name of a view finds its rows
pub rows_there : (s : State) (names : List (List ℕ)) (k : ℕ) (d : List ℕ) → names ≡ view_names_of s → k < length names → IsOk (view_rows_of s (get_or names k d))
rows_there s names k d is lt =
    subst (λ (ns : List (List ℕ)). IsOk (view_rows_of s (get_or ns k d))) (sym is)
    (found_named s.views k d (omega (arith, lt, ap length is, length-map s.views (λ (v : ViewState). v.name))))

-- two answers of what is wanted are the same rows
pub same_rows : (rows computed : List (List Cell)) (want : Result (List (List Cell)) CatalogueFault) → want ≡ Ok rows → want ≡ Ok computed → pointwise row_eq rows computed ≡ true
same_rows rows computed want a b =
    let e : rows ≡ computed = cc in
    subst (λ cs. pointwise row_eq rows cs ≡ true) e (rows_same rows)
