use Rattle.std.proofs.Common.{◌≡◌, length}
use Rattle.df_column.specs.BlockLists.{AreMinMaxCells}
use Rattle.df_column.proofs.leaf.min_or_max_cells.Given as goal

abbrev pub invariant-loop-column : goal.invariant-loop-column
invariant-loop-column l =
    record {
      count : length l.cells.items ≡ l.column;
      cells : AreMinMaxCells l.which l.run l.cells.items;
    }
