use Rattle.std.proofs.Common.{◌≡◌}
use Rattle.std.specs.Prelude.{take}
use Rattle.df_tree.specs.Leaves.{items_in}
use Rattle.df_join.proofs.tree_table.TreeTable.tagged_rows.Given as goal

abbrev pub invariant-loop-index : goal.invariant-loop-index
invariant-loop-index l = l.out.items ≡ take l.index (items_in l.self-inside.rows)
