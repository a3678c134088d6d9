use Rattle.std.proofs.Common.{◌≡◌}
use Rattle.df_column.proofs.RowTests.{test_from}
use Rattle.df_column.proofs.block.are_cells.Given as goal

abbrev pub invariant-loop-column : goal.invariant-loop-column
invariant-loop-column l = test_from l.columns l.at l.cells 0 ≡ test_from l.columns l.at l.cells l.column
