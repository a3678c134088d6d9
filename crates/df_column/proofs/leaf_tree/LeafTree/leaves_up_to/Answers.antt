use Rattle.std.proofs.Common.{◌∙◌, ap, subst, sym, take}
use Rattle.df_tree.specs.Leaves.{items_in}
use Rattle.df_tree.specs.Partitions.{IsPartitioned}
use Rattle.df_column.specs.BlockLists.{blocks_of_leaves}
use Rattle.df_column.specs.LeafTotals.{totals_of}
use Rattle.df_column.specs.LeafTrees.{AreFull, reaches}
use Rattle.df_column.proofs.LeafOrder.{parted}
use Rattle.df_column.proofs.LeafTotalFacts.{totals_together}
use Rattle.df_column.proofs.LeafTreeLemmas.{some_leaves}
use Rattle.df_column.proofs.leaf_tree.LeafTree.leaves_up_to.Goals as goal

pub before-requires : goal.before-requires
before-requires c =
    let mine = some_leaves c.self.inside.leaves c.in-Some.leaves c.args.self.now c.in-Some.is c.self.view_is in
    subst (IsPartitioned (reaches c.args.tag)) (sym mine) (parted c.args.tag c.args.self.now (subst AreFull c.self.view_is c.self.invariant) c.requires)

pub returns-in-Some-clause-sum : goal.returns-in-Some-clause-sum
returns-in-Some-clause-sum c =
    let mine = some_leaves c.self.inside.leaves c.in-Some.leaves c.args.self.now c.in-Some.is c.self.view_is in
    c.before-in-Some.ensures.sum_is ∙ totals_together (take c.before-in-Some.result.count (items_in c.in-Some.leaves)) ∙ ap (λ ls. totals_of (blocks_of_leaves (take c.before-in-Some.result.count ls))) mine
