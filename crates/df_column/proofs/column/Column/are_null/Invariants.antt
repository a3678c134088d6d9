use Rattle.df_column.specs.Columns.{column_cells}
use Rattle.df_column.specs.RowRuns.{AreNull}
use Rattle.df_column.proofs.column.Column.are_null.Given as goal

abbrev pub invariant-loop-k : goal.invariant-loop-k
invariant-loop-k l = AreNull (column_cells l.self) l.at l.k
