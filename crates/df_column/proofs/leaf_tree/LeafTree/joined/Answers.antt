use Rattle.std.proofs.Common.{subst, sym}
use Rattle.df_column.specs.LeafTrees.{AreFull, leaves_in}
use Rattle.df_column.proofs.LeafTreeLemmas.{full_append}
use Rattle.df_column.proofs.leaf_tree.LeafTree.joined.Goals as goal

pub invariant_of-result : goal.invariant_of-result
invariant_of-result c = subst AreFull (sym c.in_ok-leaves.ensures) (full_append (leaves_in c.self.inside.leaves) (leaves_in c.other.inside.leaves) c.self.invariant c.other.invariant)
