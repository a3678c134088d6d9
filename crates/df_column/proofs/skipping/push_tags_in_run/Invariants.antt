use Rattle.std.proofs.Common.{◌≡◌, ◌++◌, Some, take}
use Rattle.df_column.specs.Blocks.{rows_of_blocks}
use Rattle.df_column.specs.MinMaxCells.{tags_above}
use Rattle.df_column.proofs.skipping.push_tags_in_run.Given as goal

abbrev pub invariant-loop-at : goal.invariant-loop-at
invariant-loop-at l = l.tags.items ≡ l.initial.tags.items ++ tags_above (Some l.index) l.value (rows_of_blocks (take l.at l.run))
