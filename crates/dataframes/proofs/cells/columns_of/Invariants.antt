use Rattle.std.proofs.Common.{◌≡◌, take}
use Rattle.dataframes.specs.Cells.{columns_lent}
use Rattle.dataframes.proofs.cells.columns_of.Given as goal

abbrev pub invariant-loop-name : goal.invariant-loop-name
invariant-loop-name l = l.owned.items ≡ columns_lent (take l.name-index l.columns)
