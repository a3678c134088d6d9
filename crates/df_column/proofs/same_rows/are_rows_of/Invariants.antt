use Rattle.std.proofs.Common.{◌≤◌, ◌-◌}
use Rattle.df_column.specs.Blocks.{rows_of_blocks}
use Rattle.df_column.specs.RowRuns.{AreThose}
use Rattle.df_column.proofs.same_rows.are_rows_of.Given as goal

abbrev pub invariant-loop-done : goal.invariant-loop-done
invariant-loop-done l = record {
  within : l.done ≤ l.count;
  same : AreThose (rows_of_blocks l.blocks) l.at (rows_of_blocks l.others) l.from l.done;
}

abbrev pub decreases-loop-done : goal.decreases-loop-done
decreases-loop-done l = l.count - l.done
