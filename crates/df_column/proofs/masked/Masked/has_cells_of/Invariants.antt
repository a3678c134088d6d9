use Rattle.std.proofs.Common.{map}
use Rattle.df_column.specs.RowRuns.{AreThose}
use Rattle.df_column.proofs.masked.Masked.has_cells_of.Given as goal

abbrev pub invariant-loop-k : goal.invariant-loop-k
invariant-loop-k g l = AreThose (map g.T.CellValue.cell_of l.self) l.at (map g.T.CellValue.cell_of l.other) l.from l.k
