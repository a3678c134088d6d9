use Rattle.std.proofs.Common.{◌≡◌, ◌++◌, map, drop}
use Rattle.std.specs.Prelude.{T}
use Rattle.df_column.specs.Columns.{column_cells, dtype_of_column}
use Rattle.df_column.specs.Rows.{are_even}
use Rattle.df_column.specs.Tables.{dtypes_of}
use Rattle.df_column.proofs.table.empty_columns.Given as goal

abbrev pub invariant-loop-column : goal.invariant-loop-column
invariant-loop-column l =
    record {
      types : map dtype_of_column l.out.items ++ dtypes_of (drop l.column-index l.columns) ≡ dtypes_of l.columns;
      even : T (are_even 0 (map column_cells l.out.items));
    }
