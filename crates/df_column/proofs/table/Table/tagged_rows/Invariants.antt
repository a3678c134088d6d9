use Rattle.std.proofs.Common.{◌≡◌, ◌++◌, drop}
use Rattle.df_column.specs.Blocks.{rows_of_blocks}
use Rattle.df_column.proofs.table.Table.tagged_rows.Given as goal

abbrev pub invariant-loop-at : goal.invariant-loop-at
invariant-loop-at l = l.out.items ++ rows_of_blocks (drop l.at l.blocks) ≡ rows_of_blocks l.blocks
