use Rattle.std.proofs.Common.{◌*◌}
use Rattle.df_delta.specs.Work.{evaluations}
use Rattle.df_nodes.specs.Outputs.{filtered}
use Rattle.df_live.proofs.RowWiseTrees.{filter_over, tree_over}
use Rattle.df_live.proofs.row_wise_trees.filter_tree.Goals as goal

pub returns : goal.returns
returns c =
    let schemas = c.args.schemas.now in
    let below = c.args.below.now in
    let plan = c.args.plan.now in
    let is = c.args.input.schema in
    tree_over c.over_one.result c.filter-node.result c.args.input schemas below plan c.args.schema
    (filtered is c.args.predicate.now)
    (λ d. evaluations (2 * d)) c.over_one.ensures c.requires.input c.requires.checks
    (filter_over schemas below plan is c.args.schema c.requires.input.schema c.requires.checks c.args.predicate.now c.requires.is)
    c.filter-node.ensures
