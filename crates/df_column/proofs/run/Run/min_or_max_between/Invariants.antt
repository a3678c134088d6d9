use Rattle.std.proofs.Common.{◌≡◌, ◌≤◌, drop, take}
use Rattle.df_column.specs.BlockLists.{min_or_max_cell}
use Rattle.df_column.specs.MinMaxCells.{min_or_max_with}
use Rattle.df_column.proofs.run.Run.min_or_max_between.Given as goal

abbrev pub invariant-loop-at : goal.invariant-loop-at
invariant-loop-at l =
    record {
      above : l.low ≤ l.at;
      best : l.best ≡ min_or_max_with l.which l.initial.best (min_or_max_cell l.which (drop l.low (take l.at l.self)) l.index);
    }
