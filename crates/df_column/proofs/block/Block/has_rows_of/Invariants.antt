use Rattle.std.proofs.Common.{ℕ, ◌<◌, get_or}
use Rattle.df_column.specs.Columns.{column_cells}
use Rattle.df_column.specs.RowRuns.{AreThose}
use Rattle.df_column.specs.declared.column.Column.{Column}
use Rattle.df_column.proofs.block.Block.has_rows_of.Given as goal

abbrev pub invariant-loop-column : goal.invariant-loop-column
invariant-loop-column l = (j : ℕ) → j < l.column → (c : Column) → AreThose (column_cells (get_or l.columns j c)) l.at (column_cells (get_or l.others j c)) l.from l.count
