-- Rows that fit a schema: under other names, entry by entry, and what is made of them row by row.
use Rattle.std.proofs.Common.{◌≡◌, List, Option, Some, None, IsTrue, sym, subst}
use Rattle.std.specs.Prelude.{T}
use Rattle.std.specs.List.{list_all}
use Rattle.std.specs.Option.{IfSome, option_and_then}
use Rattle.std.specs.FinMap as finite
use Rattle.df_value.specs.Rows.{row_fits}
use Rattle.df_value.specs.Schemas.{Columns}
use Rattle.df_value.specs.declared.cell.Cell.{Cell}
use Rattle.df_column.specs.TagOrder.{tag_same}
use Rattle.df_column.specs.Tables.{TaggedRows}
use Rattle.df_column.specs.Tags.{tag_cmp}
use Rattle.df_column.specs.declared.tag.Tag.{Tag}
use Rattle.df_delta.specs.Collected.{collected}
use Rattle.df_delta.specs.Deltas.{RowsFit}
use Rattle.df_delta.proofs.Collected.{get-collected}
use Rattle.df_delta.proofs.Fitting.{all_entries}

pub fits_as : (s s' : Columns) (t t' : TaggedRows) → s' ≡ s → t' ≡ t → RowsFit s t → RowsFit s' t'
fits_as s s' t t' same_schema same_rows h = subst (λ (s : Columns). RowsFit s t') (sym same_schema) (subst (RowsFit s) (sym same_rows) h)

module _ (columns : Columns) where
  found_fits : (o : Option (List Cell)) → IfSome o (λ row. IsTrue (row_fits columns row)) → IfSome o (λ row. T (row_fits columns row))
  found_fits None h = tt
  found_fits (Some row) h = subst T (sym h) tt

  pub entries_fit : (t : TaggedRows) → RowsFit columns t → T (list_all (λ e. row_fits columns e.1) (finite.entries t))
  entries_fit t fit =
      all_entries (row_fits columns) (finite.entries t) (finite.entries_sorted t)
      (λ q. subst (λ o. IfSome o (λ row. T (row_fits columns row))) (finite.get-entries t q) (found_fits (finite.get t q) (fit.at q)))

  -- where each row that is made fits, they all do
  module _ (made : Columns) (g : Tag → List Cell → Option (List Cell)) (each : (q : Tag) (row : List Cell) → IsTrue (row_fits columns row) → IfSome (g q row) (λ r. IsTrue (row_fits made r))) where
    made_fits : (q : Tag) (o : Option (List Cell)) → IfSome o (λ row. IsTrue (row_fits columns row)) → IfSome (option_and_then (g q) o) (λ r. IsTrue (row_fits made r))
    made_fits q None h = tt
    made_fits q (Some row) h = each q row h

    pub collected_fit : (t : TaggedRows) → RowsFit columns t → RowsFit made (collected {R = tag_cmp} g t)
    collected_fit t fit = record {
      at = λ q. subst (λ o. IfSome o (λ r. IsTrue (row_fits made r))) (sym (get-collected tag_cmp g tag_same t q)) (made_fits q (finite.get t q) (fit.at q));
    }
