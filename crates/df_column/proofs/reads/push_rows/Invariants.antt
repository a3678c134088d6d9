use Rattle.std.proofs.Common.{◌≡◌, ◌++◌, map, drop}
use Rattle.df_column.specs.Blocks.{block_rows}
use Rattle.df_column.proofs.reads.push_rows.Given as goal

abbrev pub invariant-loop-at : goal.invariant-loop-at
invariant-loop-at l = l.out.items ++ map (λ r. r.1) (drop l.at (block_rows l.block)) ≡ l.initial.out.items ++ map (λ r. r.1) (block_rows l.block)
