-- The tagged rows that each operator gives of those of its input.
use Rattle.std.specs.Prelude.{ℕ, List, Some, None, cond}
use Rattle.df_value.specs.declared.cell.Cell.{Cell}
use Rattle.df_value.specs.declared.cell.CellType.{CellType}
use Rattle.df_expr.specs.declared.expr.Expr.{Expr}
use Rattle.df_value.specs.Schemas.{column_index}
use Rattle.df_ops.specs.RowWise.{keeps, with_column_row}
use Rattle.df_ops.specs.Windows.{cum_sum_at, rolling_cell, window_of}
use Rattle.df_ops.specs.declared.windows.RollKind.{RollKind}
use Rattle.df_column.specs.Tables.{TaggedRows}
use Rattle.df_delta.specs.Collected.{collected}
use Rattle.df_nodes.specs.Prefixes.{with_each_prefix}

-- the rows whose predicate is true
abbrev pub filtered : List (List ℕ × CellType) → Expr → TaggedRows → TaggedRows
filtered columns predicate t = collected (λ _ row. cond (keeps columns predicate row) (Some row) None) t

-- another row in the place of each
abbrev pub mapped : (List Cell → List Cell) → TaggedRows → TaggedRows
mapped f t = collected (λ _ row. Some (f row)) t

-- the rows with the rolling values of a column, over w rows, put among their cells
abbrev pub rolled : List (List ℕ × CellType) → List ℕ → RollKind → List ℕ → ℕ → ℕ → TaggedRows → TaggedRows
rolled columns name kind column w m t =
    with_each_prefix (with_column_row columns name) (λ cells. rolling_cell kind m (window_of w cells)) (column_index column columns) t

-- the rows with the cumulative sums of a column put among their cells
abbrev pub summed : List (List ℕ × CellType) → List ℕ → List ℕ → TaggedRows → TaggedRows
summed columns name column t = with_each_prefix (with_column_row columns name) cum_sum_at (column_index column columns) t
