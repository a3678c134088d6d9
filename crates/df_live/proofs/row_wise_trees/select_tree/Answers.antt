use Rattle.std.proofs.Common.{◌*◌, length}
use Rattle.df_delta.specs.Work.{evaluations}
use Rattle.df_nodes.specs.Outputs.{mapped}
use Rattle.df_ops.specs.RowWise.{select_row}
use Rattle.df_live.proofs.RowWiseTrees.{select_items, select_over, tree_over}
use Rattle.df_live.proofs.row_wise_trees.select_tree.Goals as goal

pub returns : goal.returns
returns c =
    let schemas = c.args.schemas.now in
    let below = c.args.below.now in
    let plan = c.args.plan.now in
    let is = c.args.input.schema in
    tree_over c.over_one.result c.select-node.result c.args.input schemas below plan c.args.schema
    (mapped (select_row is c.args.items.now))
    (λ d. evaluations (2 * d * length c.args.items.now)) c.over_one.ensures c.requires.input c.requires.checks
    (select_over schemas below plan is c.args.schema c.requires.input.schema c.requires.checks c.args.items.now c.requires.is)
    c.select-node.ensures

pub select-node-requires : goal.select-node-requires
select-node-requires c =
    select_items c.args.schemas.now c.args.below.now c.args.plan.now c.args.input.schema c.args.schema c.requires.input.schema c.requires.checks
    c.args.items.now c.requires.is
