use Rattle.std.proofs.Common.{◌≡◌, ◌++◌, map, drop, length}
use Rattle.std.specs.Prelude.{T}
use Rattle.df_column.specs.Columns.{column_cells}
use Rattle.df_column.specs.Rows.{are_even, row_at}
use Rattle.df_column.proofs.block.Block.row.Given as goal

abbrev pub invariant-loop-column : goal.invariant-loop-column
invariant-loop-column l =
    record {
      even : T (are_even (length l.self.tags) (map column_cells (drop l.column-index l.columns)));
      cells : l.cells.items ++ row_at (map column_cells (drop l.column-index l.columns)) l.at ≡ row_at (map column_cells l.columns) l.at;
    }
