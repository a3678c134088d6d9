use Rattle.std.proofs.Common.{◌≡◌, take}
use Rattle.dataframes.specs.Cells.{row_lent}
use Rattle.dataframes.proofs.cells.row_of.Given as goal

abbrev pub invariant-loop-cell : goal.invariant-loop-cell
invariant-loop-cell l = l.owned.items ≡ row_lent (take l.cell-index l.cells)
