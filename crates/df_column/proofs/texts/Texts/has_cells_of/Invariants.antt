use Rattle.std.proofs.Common.{map}
use Rattle.df_column.specs.RowRuns.{AreThose}
use Rattle.df_column.specs.ValueCells.{text_cell}
use Rattle.df_column.proofs.texts.Texts.has_cells_of.Given as goal

abbrev pub invariant-loop-k : goal.invariant-loop-k
invariant-loop-k l = AreThose (map text_cell l.self) l.at (map text_cell l.other) l.from l.k
