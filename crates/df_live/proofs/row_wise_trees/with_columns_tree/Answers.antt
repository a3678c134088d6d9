use Rattle.std.proofs.Common.{◌*◌, length}
use Rattle.df_delta.specs.Work.{evaluations}
use Rattle.df_nodes.specs.Outputs.{mapped}
use Rattle.df_ops.specs.RowWise.{with_columns_row}
use Rattle.df_live.proofs.RowWiseTrees.{tree_over, with_items, with_over}
use Rattle.df_live.proofs.row_wise_trees.with_columns_tree.Goals as goal

pub returns : goal.returns
returns c =
    let schemas = c.args.schemas.now in
    let below = c.args.below.now in
    let plan = c.args.plan.now in
    let is = c.args.input.schema in
    tree_over c.over_one.result c.with_columns-node.result c.args.input schemas below plan c.args.schema
    (mapped (with_columns_row is c.args.items.now))
    (λ d. evaluations (2 * d * length c.args.items.now)) c.over_one.ensures c.requires.input c.requires.checks
    (with_over schemas below plan is c.args.schema c.requires.input.schema c.requires.checks c.args.items.now c.requires.is)
    c.with_columns-node.ensures

pub with_columns-node-requires : goal.with_columns-node-requires
with_columns-node-requires c =
    with_items c.args.schemas.now c.args.below.now c.args.plan.now c.args.input.schema c.args.schema c.requires.input.schema c.requires.checks
    c.args.items.now c.requires.is
