use Rattle.std.proofs.Common.{map}
use Rattle.df_column.specs.Columns.{dtype_of_column}
use Rattle.df_column.specs.TreeChanges.{AreChangedBehind}
use Rattle.df_column.proofs.leaf_tree.LeafTree.changed.Given as goal

abbrev pub invariant-loop-changed : goal.invariant-loop-changed
invariant-loop-changed l = AreChangedBehind (map dtype_of_column l.columns) l.self l.entries l.changed.tree l.changed.at l.changed.from

abbrev pub decreases-loop-changed : goal.decreases-loop-changed
decreases-loop-changed l = l.changed.at
