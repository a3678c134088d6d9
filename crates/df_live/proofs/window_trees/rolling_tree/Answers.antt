use Rattle.std.proofs.Common.{◌≤◌, ◌∙◌, ap, subst, sym}
use Rattle.std.proofs.lemmas.Int.{to_z-of_z}
use Rattle.std.proofs.lemmas.Result.{IfOk-weaker}
use mir.Syntax.{w64}
use Rattle.df_value.specs.Schemas.{IsSchema}
use Rattle.df_ops.specs.Windows as ops
use Rattle.df_live.specs.Fresh.{IsFreshFor}
use Rattle.df_live.proofs.PartColumns.{meant_columns}
use Rattle.df_live.proofs.WindowTrees.{rolling_columns, rolling_few, rolling_over, rolling_some, rolling_typed, windows_as}
use Rattle.df_live.proofs.window_trees.rolling_tree.Goals as goal

pub window-node-requires-clause-schema : goal.window-node-requires-clause-schema
window-node-requires-clause-schema c =
    let a = c.args in
    let input = c.requires.input in
    subst IsSchema
    (rolling_columns a.schemas.now a.plan.now a.below.now a.output.now a.kind a.column.now a.w a.m c.requires.is a.input.schema a.schema input.schema c.requires.checks)
    c.columns-columns.ensures.sound

pub window-node-requires-clause-typed : goal.window-node-requires-clause-typed
window-node-requires-clause-typed c =
    let a = c.args in
    let input = c.requires.input in
    rolling_typed a.schemas.now a.plan.now a.below.now a.output.now a.kind a.column.now a.w a.m c.requires.is a.input.schema a.schema input.schema c.requires.checks

pub window-node-requires-clause-some : goal.window-node-requires-clause-some
window-node-requires-clause-some c =
    let a = c.args in
    subst (λ w. 1 ≤ w) (sym (c.size_of-rows.ensures ∙ ap ops.size_of (to_z-of_z w64 a.w c.ranges.w)))
    (rolling_some a.schemas.now a.plan.now a.below.now a.output.now a.kind a.column.now a.w a.m c.requires.is a.schema c.requires.checks)

pub window-node-requires-clause-few : goal.window-node-requires-clause-few
window-node-requires-clause-few c =
    let a = c.args in
    subst (λ w. w ≤ 65536) (sym (c.size_of-rows.ensures ∙ ap ops.size_of (to_z-of_z w64 a.w c.ranges.w)))
    (rolling_few a.schemas.now a.plan.now a.below.now a.output.now a.kind a.column.now a.w a.m c.requires.is a.schema c.requires.checks)

pub returns : goal.returns
returns c =
    let a = c.args in
    let input = c.requires.input in
    let over = rolling_over a.schemas.now a.plan.now a.below.now a.output.now a.kind a.column.now a.w a.m c.requires.is a.input.schema (meant_columns a.schemas.now a.below.now a.input.schema input.schema) in
    let node =
    IfOk-weaker c.window-node.result _ _
    (λ n k.
    windows_as n a.input.schema a.output.now a.kind a.column.now c.size_of-rows.result c.size_of-least.result (ops.size_of a.w) (ops.size_of a.m)
    (c.size_of-rows.ensures ∙ ap ops.size_of (to_z-of_z w64 a.w c.ranges.w)) (c.size_of-least.ensures ∙ ap ops.size_of (to_z-of_z w64 a.m c.ranges.m)) k)
    c.window-node.ensures in
    IfOk-weaker c.over_one.result _ (λ made. IsFreshFor made a.plan.now a.schemas.now)
    (λ r h. h a.schemas.now a.below.now a.plan.now _ _ input c.requires.checks over node) c.over_one.ensures
