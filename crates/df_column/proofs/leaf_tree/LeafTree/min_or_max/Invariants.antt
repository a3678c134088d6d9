use Rattle.std.proofs.Common.{◌≡◌, take}
use Rattle.df_tree.specs.Leaves.{items_in}
use Rattle.df_column.specs.BlockLists.{blocks_of_leaves, min_or_max_cell}
use Rattle.df_column.specs.MinMaxCells.{min_or_max_with}
use Rattle.df_column.proofs.leaf_tree.LeafTree.min_or_max.Given as goal

abbrev pub invariant-loop-at : goal.invariant-loop-at
invariant-loop-at l = l.out ≡ min_or_max_with l.which l.initial.out (min_or_max_cell l.which (blocks_of_leaves (take l.at (items_in l.leaves))) l.index)
