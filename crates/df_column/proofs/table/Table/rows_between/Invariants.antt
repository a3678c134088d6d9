use Rattle.std.proofs.Common.{◌≡◌, drop, take}
use Rattle.std.specs.FinMap as finite
use Rattle.df_column.proofs.table.Table.rows_between.Given as goal

abbrev pub invariant-loop-at : goal.invariant-loop-at
invariant-loop-at l = l.out.items ≡ drop l.low (take l.at (finite.values l.self.rows))
