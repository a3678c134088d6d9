use Rattle.std.proofs.Common.{◌*◌}
use Rattle.df_group.specs.GroupRows.{group_output}
use Rattle.df_group.specs.Work.{finishes}
use Rattle.df_ops.specs.NamedColumns.{column_indices}
use Rattle.df_live.proofs.RowWiseTrees.{group_over, tree_over}
use Rattle.df_live.proofs.row_wise_trees.group_tree.Goals as goal

pub returns : goal.returns
returns c =
    let schemas = c.args.schemas.now in
    let below = c.args.below.now in
    let plan = c.args.plan.now in
    let is = c.args.input.schema in
    tree_over c.over_one.result c.group-node.result c.args.input schemas below plan c.args.schema
    (group_output is (column_indices is c.args.keys.now) c.args.aggregates.now)
    (λ d. finishes (2 * d)) c.over_one.ensures c.requires.input c.requires.checks
    (group_over schemas below plan is c.args.schema c.requires.input.schema c.requires.checks c.args.keys.now c.args.aggregates.now c.requires.is)
    c.group-node.ensures
