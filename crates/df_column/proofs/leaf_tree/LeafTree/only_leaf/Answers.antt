use Rattle.std.proofs.Common.{◌∙◌, sym}
use Rattle.df_tree.specs.Leaves.{items_in}
use Rattle.df_column.proofs.LeafTreeLemmas.{only_one, some_leaves}
use Rattle.df_column.proofs.leaf_tree.LeafTree.only_leaf.Goals as goal

pub returns-in-Some : goal.returns-in-Some
returns-in-Some c =
    let mine = some_leaves c.self.inside.leaves c.in-Some.leaves c.args.self.now c.in-Some.is c.self.view_is in
    sym mine ∙ only_one (items_in c.in-Some.leaves) c.get.result.now (sym c.len.ensures ∙ c.if-len-eq1.true) c.get.ensures
