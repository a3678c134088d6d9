use Rattle.std.proofs.Common.{◌≡◌, ◌++◌, drop}
use Rattle.df_column.specs.Blocks.{block_rows}
use Rattle.df_column.proofs.reads.push_tagged_rows.Given as goal

abbrev pub invariant-loop-at : goal.invariant-loop-at
invariant-loop-at l = l.out.items ++ drop l.at (block_rows l.block) ≡ l.initial.out.items ++ block_rows l.block
