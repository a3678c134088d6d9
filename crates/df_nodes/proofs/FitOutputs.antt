-- What windows and sums give of rows that fit, fits too.
use Rattle.std.proofs.Common.{◌≡◌, ℕ, ◌-◌, Bool, true, false, not, List, [], ◌∷◌, length, map, filter, Option, Some, IsTrue, refl}
use Rattle.std.specs.Prelude.{T}
use Rattle.std.specs.List.{list_all}
use Rattle.std.specs.FinMap as finite
use Rattle.df_value.specs.Cells.{fits_dtype}
use Rattle.df_value.specs.Choices.{either}
use Rattle.df_value.specs.Rows.{row_fits, rows_fit}
use Rattle.df_value.specs.Schemas.{Columns, column_dtype, column_index}
use Rattle.df_value.specs.declared.cell.Cell.{Cell}
use Rattle.df_value.specs.declared.cell.CellType.{CellType}
use Rattle.df_value.specs.declared.cell.CellType.TheVariants as dtype
use Rattle.df_ops.specs.NamedColumns.{with_columns}
use Rattle.df_ops.specs.RowWise.{with_column_row}
use Rattle.df_ops.specs.Windows.{cum_sum_at, rolling_cell, rolling_dtype, window_of}
use Rattle.df_ops.specs.declared.windows.RollKind.{RollKind}
use Rattle.df_ops.proofs.FitCells.{both_true, cells_fit, left_pass, put_fits, running_fits, window_fits}
use Rattle.df_column.specs.Bounds.{is_below}
use Rattle.df_column.specs.Tables.{TaggedRows}
use Rattle.df_column.specs.declared.tag.Tag.{Tag}
use Rattle.df_delta.specs.Deltas.{RowsFit}
use Rattle.df_delta.proofs.Collected.{T-first, T-second}
use Rattle.df_delta.proofs.FitRows.{collected_fit, entries_fit}
use Rattle.df_nodes.specs.Outputs.{rolled, summed}
use Rattle.df_nodes.specs.Prefixes.{cells_up_to, rows_up_to, with_each_prefix}

is_true : (b : Bool) → T b → IsTrue b
is_true true h = refl
is_true false h = absurd h

kept_rows : (columns : Columns) (p : Tag × List Cell → Bool) (es : List (Tag × List Cell)) → T (list_all (λ e. row_fits columns e.1) es) →
    IsTrue (rows_fit columns (map (λ r. r.1) (filter p es)))
kept_rows columns p [] h = refl
kept_rows columns p (e ∷ es) h =
    let rest = kept_rows columns p es (T-second (row_fits columns e.1) _ h) in
    either (λ (l : List (Tag × List Cell)). IsTrue (rows_fit columns (map (λ r. r.1) l))) (p e) (e ∷ filter p es) (filter p es)
    (both_true (row_fits columns e.1) (rows_fit columns (map (λ r. r.1) (filter p es))) (is_true (row_fits columns e.1) (T-first (row_fits columns e.1) _ h)) rest) rest

module _ (columns : Columns) (name : List ℕ) (t : TaggedRows) (fit : RowsFit columns t) where
  -- cells that fit, put among those of each row
  prefixes_fit : (made : CellType) (f : List Cell → Cell) (index : Option ℕ) → ((q : Tag) → IsTrue (fits_dtype made (f (cells_up_to index t q)))) →
      RowsFit (with_columns columns ((name, made) ∷ [])) (with_each_prefix (with_column_row columns name) f index t)
  prefixes_fit made f index each =
      collected_fit columns (with_columns columns ((name, made) ∷ [])) (λ q row. Some (with_column_row columns name row (f (cells_up_to index t q))))
      (λ q row h. put_fits columns row h name made (f (cells_up_to index t q)) (each q)) t fit

  -- windows of an Int column
  pub rolled_fits : (kind : RollKind) (column : List ℕ) (w m : ℕ) → column_dtype column columns ≡ Some dtype.Int →
      RowsFit (with_columns columns ((name, rolling_dtype kind) ∷ [])) (rolled columns name kind column w m t)
  rolled_fits kind column w m typed =
      let index = column_index column columns in
      prefixes_fit (rolling_dtype kind) (λ cells. rolling_cell kind m (window_of w cells)) index
      (λ q.
      window_fits kind m (window_of w (cells_up_to index t q))
      (left_pass (fits_dtype dtype.Int) (length (cells_up_to index t q) - w) (cells_up_to index t q)
      (cells_fit columns column dtype.Int typed (map (λ r. r.1) (rows_up_to q (finite.entries t)))
      (kept_rows columns (λ r. not (is_below q r.0)) (finite.entries t) (entries_fit columns t fit)))))

  pub summed_fits : (column : List ℕ) → RowsFit (with_columns columns ((name, dtype.Wide) ∷ [])) (summed columns name column t)
  summed_fits column =
      let index = column_index column columns in
      prefixes_fit dtype.Wide cum_sum_at index (λ q. running_fits (cells_up_to index t q))
