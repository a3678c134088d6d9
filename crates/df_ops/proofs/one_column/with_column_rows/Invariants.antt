use Rattle.std.proofs.Common.{◌≡◌, ◌++◌, length, drop}
use Rattle.df_ops.specs.RowWise.{with_column_rows}
use Rattle.df_ops.proofs.one_column.with_column_rows.Given as goal

abbrev pub invariant-loop-row : goal.invariant-loop-row
invariant-loop-row l =
    with_column_rows l.columns l.name l.rows l.cells
    ≡ l.out.items ++ with_column_rows l.columns l.name (drop (length l.yielded) l.rows) (drop (length l.yielded) l.cells)
