use Rattle.std.proofs.Common.{◌≡◌, ◌++◌, map, drop}
use Rattle.df_column.specs.Columns.{column_cells, dtype_of_column}
use Rattle.df_column.specs.Rows.{spliced_columns}
use Rattle.df_column.proofs.block.spliced_columns.Given as goal

abbrev pub invariant-loop-at : goal.invariant-loop-at
invariant-loop-at l =
    record {
      cells : map column_cells l.out.items ++ spliced_columns l.low l.high l.at (map column_cells (drop l.at l.columns)) l.picks ≡ spliced_columns l.low l.high 0 (map column_cells l.columns) l.picks;
      dtypes : map dtype_of_column l.out.items ++ map dtype_of_column (drop l.at l.columns) ≡ map dtype_of_column l.columns;
    }
