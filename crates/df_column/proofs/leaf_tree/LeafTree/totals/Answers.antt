use Rattle.std.proofs.Common.{◌∙◌, ap}
use Rattle.df_tree.specs.Leaves.{items_in}
use Rattle.df_column.specs.BlockLists.{blocks_of_leaves}
use Rattle.df_column.specs.LeafTotals.{totals_of}
use Rattle.df_column.proofs.LeafTotalFacts.{totals_together}
use Rattle.df_column.proofs.LeafTreeLemmas.{some_leaves}
use Rattle.df_column.proofs.leaf_tree.LeafTree.totals.Goals as goal

pub returns-in-Some-clause-totals : goal.returns-in-Some-clause-totals
returns-in-Some-clause-totals c =
    let mine = some_leaves c.self.inside.leaves c.in-Some.leaves c.args.self.now c.in-Some.is c.self.view_is in
    c.measure.ensures ∙ totals_together (items_in c.in-Some.leaves) ∙ ap (λ ls. totals_of (blocks_of_leaves ls)) mine
