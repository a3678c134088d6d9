use Rattle.std.proofs.Common.{◌≡◌, ◌++◌, ◌≤◌, ◌^◌, drop, length, take}
use Rattle.df_column.specs.Blocks.{rows_of_blocks}
use Rattle.df_column.proofs.run.Run.joined.Given as goal

abbrev pub invariant-loop-at : goal.invariant-loop-at
invariant-loop-at l =
    record {
      above : l.low ≤ l.at;
      blocks : l.out ≡ l.fn.self ++ drop l.low (take l.at l.other);
      few : length (rows_of_blocks l.out) ≤ 2 ^ 60;
    }
