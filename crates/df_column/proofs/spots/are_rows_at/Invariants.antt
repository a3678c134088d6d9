use Rattle.std.proofs.Common.{◌≤◌, ◌-◌, length, take}
use Rattle.df_column.specs.Blocks.{rows_of_blocks}
use Rattle.df_column.specs.RowRuns.{StandFrom}
use Rattle.df_column.proofs.spots.are_rows_at.Given as goal

abbrev pub invariant-loop-done : goal.invariant-loop-done
invariant-loop-done l = record {
  within : l.done ≤ length l.rows;
  stand : StandFrom (rows_of_blocks l.blocks) l.at l.first (take l.done l.rows);
}

abbrev pub decreases-loop-done : goal.decreases-loop-done
decreases-loop-done l = length l.rows - l.done
