use Rattle.std.proofs.Common.{take}
use Rattle.df_column.specs.Blocks.{block_rows}
use Rattle.df_column.specs.RowRuns.{StandFrom}
use Rattle.df_column.proofs.spots.are_rows_in.Given as goal

abbrev pub invariant-loop-at : goal.invariant-loop-at
invariant-loop-at l = StandFrom (block_rows l.block) l.low l.first (take l.at l.rows)
