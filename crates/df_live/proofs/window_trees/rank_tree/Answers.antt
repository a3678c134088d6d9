use Rattle.std.proofs.Common.{subst}
use Rattle.std.proofs.lemmas.Result.{IfOk-weaker}
use Rattle.df_value.specs.Schemas.{IsSchema}
use Rattle.df_live.specs.Fresh.{IsFreshFor}
use Rattle.df_live.proofs.PartColumns.{meant_columns}
use Rattle.df_live.proofs.WindowTrees.{rank_columns, rank_over}
use Rattle.df_live.proofs.window_trees.rank_tree.Goals as goal

pub rank-node-requires : goal.rank-node-requires
rank-node-requires c =
    let a = c.args in
    let input = c.requires.input in
    subst IsSchema
    (rank_columns a.schemas.now a.plan.now a.below.now a.output.now a.kind a.column.now c.requires.is a.input.schema a.schema input.schema c.requires.checks)
    c.columns-columns.ensures.sound

pub returns : goal.returns
returns c =
    let a = c.args in
    let input = c.requires.input in
    let over = rank_over a.schemas.now a.plan.now a.below.now a.output.now a.kind a.column.now c.requires.is a.input.schema (meant_columns a.schemas.now a.below.now a.input.schema input.schema) in
    IfOk-weaker c.over_one.result _ (λ made. IsFreshFor made a.plan.now a.schemas.now)
    (λ r h. h a.schemas.now a.below.now a.plan.now _ _ input c.requires.checks over c.rank-node.ensures) c.over_one.ensures
