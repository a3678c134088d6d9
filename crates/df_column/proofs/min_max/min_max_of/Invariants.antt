use Rattle.std.proofs.Common.{map, take}
use Rattle.df_column.specs.BlockMinMax.{AreMinMax}
use Rattle.df_column.specs.Columns.{column_cells}
use Rattle.df_column.proofs.min_max.min_max_of.Given as goal

abbrev pub invariant-loop-at : goal.invariant-loop-at
invariant-loop-at l = AreMinMax (map column_cells (take l.at l.columns)) l.out.items
