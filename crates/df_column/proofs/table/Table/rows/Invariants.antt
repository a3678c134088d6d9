use Rattle.std.proofs.Common.{◌≡◌, ◌++◌, map, drop}
use Rattle.df_column.specs.Blocks.{rows_of_blocks}
use Rattle.df_column.proofs.table.Table.rows.Given as goal

abbrev pub invariant-loop-at : goal.invariant-loop-at
invariant-loop-at l = l.out.items ++ map (λ r. r.1) (rows_of_blocks (drop l.at l.blocks)) ≡ map (λ r. r.1) (rows_of_blocks l.blocks)
