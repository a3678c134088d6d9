-- Rows that fit as a list fit at their tags.
use Rattle.std.proofs.Common.{true, false, cond, List, [], ◌∷◌, map, Some, sym, subst}
use Rattle.std.specs.Prelude.{IsTrue}
use Rattle.std.specs.FinMap as finite
use Rattle.std.specs.List.{list_all}
use Rattle.std.specs.Option.{IfSome}
use Rattle.std.specs.Ordering.{eq_by_cmp}
use Rattle.df_value.specs.Rows.{row_fits, rows_fit}
use Rattle.df_value.specs.Schemas.{Columns}
use Rattle.df_value.specs.declared.cell.Cell.{Cell}
use Rattle.df_column.specs.Tables.{TaggedRows}
use Rattle.df_column.specs.Tags.{tag_cmp}
use Rattle.df_column.specs.declared.tag.Tag.{Tag}
use Rattle.df_delta.specs.Deltas.{RowsFit}
use Rattle.df_plan.proofs.RowWiseSound.{first_of_two, second_of_two}

module _ (cs : Columns) where
  fit_in : (es : List (Tag × List Cell)) (q : Tag) → IsTrue (list_all (row_fits cs) (map (λ e. e.1) es)) →
      IfSome (finite.find tag_cmp q es) (λ row. IsTrue (row_fits cs row))
  fit_in [] q h = tt
  fit_in (e ∷ es) q h =
      elim (eq_by_cmp tag_cmp q e.0) as (λ b. IfSome (cond b (Some e.1) (finite.find tag_cmp q es)) (λ row. IsTrue (row_fits cs row))) [
        | true ↦ first_of_two (row_fits cs e.1) (list_all (row_fits cs) (map (λ e. e.1) es)) h
        | false ↦ fit_in es q (second_of_two (row_fits cs e.1) (list_all (row_fits cs) (map (λ e. e.1) es)) h)
      ]

  pub rows_fit_at : (t : TaggedRows) → IsTrue (rows_fit cs (finite.values t)) → RowsFit cs t
  rows_fit_at t h = record {
    at = λ q. subst (λ o. IfSome o (λ row. IsTrue (row_fits cs row))) (sym (finite.get-entries t q)) (fit_in (finite.entries t) q h);
  }
