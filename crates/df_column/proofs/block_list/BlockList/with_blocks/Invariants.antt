use Rattle.std.proofs.Common.{◌≡◌, ◌-◌, ◌≤◌, ◌++◌, drop, take}
use Rattle.df_column.proofs.block_list.BlockList.with_blocks.Given as goal

abbrev pub invariant-loop-at : goal.invariant-loop-at
invariant-loop-at l =
    record {
      above : l.low ≤ l.at;
      within : l.at ≤ l.high;
      blocks : l.out ≡ l.initial.out ++ drop l.low (take l.at l.other);
    }

abbrev pub decreases-loop-at : goal.decreases-loop-at
decreases-loop-at l = l.high - l.at
