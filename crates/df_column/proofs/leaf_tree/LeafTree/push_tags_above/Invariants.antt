use Rattle.std.proofs.Common.{◌≡◌, ◌++◌, Some, take}
use Rattle.df_tree.specs.Leaves.{items_in}
use Rattle.df_column.specs.BlockLists.{blocks_of_leaves}
use Rattle.df_column.specs.Blocks.{rows_of_blocks}
use Rattle.df_column.specs.MinMaxCells.{tags_above}
use Rattle.df_column.proofs.leaf_tree.LeafTree.push_tags_above.Given as goal

abbrev pub invariant-loop-at : goal.invariant-loop-at
invariant-loop-at l = l.tags.items ≡ l.fn.tags.items ++ tags_above (Some l.index) l.value (rows_of_blocks (blocks_of_leaves (take l.at (items_in l.leaves))))
