use Rattle.std.proofs.Common.{◌≡◌, ◌≤◌, drop, take, true}
use Rattle.df_column.specs.BlockLists.{min_or_max_cell}
use Rattle.df_column.specs.MinMaxCells.{is_beyond_best}
use Rattle.df_column.proofs.run.Run.is_beyond_part.Given as goal

abbrev pub invariant-loop-at : goal.invariant-loop-at
invariant-loop-at l =
    record {
      above : l.low ≤ l.at;
      beyond : is_beyond_best l.which (min_or_max_cell l.which (drop l.low (take l.at l.self)) l.index) l.cell ≡ true;
    }
