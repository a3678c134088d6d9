use Rattle.std.proofs.Common.{◌≡◌, ◌++◌, take}
use Rattle.df_ops.proofs.joins.row_beside.Given as goal

abbrev pub invariant-loop-cell : goal.invariant-loop-cell
invariant-loop-cell l = l.row.items ≡ l.left ++ take l.cell-index l.rest
