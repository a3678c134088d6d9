use Rattle.std.proofs.Common.{◌+◌, ◌++◌, drop, subst, sym, take}
use Rattle.df_tree.specs.Leaves.{items_in}
use Rattle.df_column.specs.LeafTrees.{AreFull}
use Rattle.df_column.proofs.LeafTreeLemmas.{full_append, full_drop, full_take, some_leaves}
use Rattle.df_column.proofs.leaf_tree.LeafTree.with_leaf_changed.Goals as goal

pub invariant_of-result : goal.invariant_of-result
invariant_of-result c =
    let mine = some_leaves c.self.inside.leaves c.in-Some.leaves c.args.self.now c.in-Some.is c.self.view_is in
    let ls = items_in c.in-Some.leaves in
    let full = subst AreFull (sym mine) (subst AreFull c.self.view_is c.self.invariant) in
    subst AreFull (sym c.in_ok-leaves.ensures)
    (full_append (take c.args.at ls) (c.args.made.now ++ drop (c.args.at + 1) ls) (full_take c.args.at ls full) (full_append c.args.made.now (drop (c.args.at + 1) ls) c.totals.ensures.full (full_drop (c.args.at + 1) ls full)))
