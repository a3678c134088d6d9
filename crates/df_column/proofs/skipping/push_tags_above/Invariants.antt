use Rattle.std.proofs.Common.{◌≡◌, ◌++◌, Some, drop}
use Rattle.df_column.specs.Blocks.{block_rows}
use Rattle.df_column.specs.MinMaxCells.{tags_above}
use Rattle.df_column.proofs.skipping.push_tags_above.Given as goal

abbrev pub invariant-loop-at : goal.invariant-loop-at
invariant-loop-at l = l.tags.items ++ tags_above (Some l.index) l.value (drop l.at (block_rows l.block)) ≡ l.initial.tags.items ++ tags_above (Some l.index) l.value (block_rows l.block)
