use Rattle.std.proofs.lemmas.Result.{IfOk-weaker}
use Rattle.df_live.specs.Fresh.{IsFreshFor}
use Rattle.df_live.proofs.JoinTrees.{join_over, join_scans}
use Rattle.df_live.proofs.join_trees.join_tree.Goals as goal

pub join-node-requires : goal.join-node-requires
join-node-requires c =
    let a = c.args in
    let r = c.requires in
    join_scans a.schemas.now a.plan.now a.on_left.now a.on_right.now a.how a.keys.now a.nulls_equal r.is a.left a.right r.left r.right a.schema r.checks

pub over_two-requires : goal.over_two-requires
over_two-requires c =
    let a = c.args in
    let r = c.requires in
    join_scans a.schemas.now a.plan.now a.on_left.now a.on_right.now a.how a.keys.now a.nulls_equal r.is a.left a.right r.left r.right a.schema r.checks

pub returns : goal.returns
returns c =
    let a = c.args in
    let r = c.requires in
    let over = join_over a.schemas.now a.plan.now a.on_left.now a.on_right.now a.how a.keys.now a.nulls_equal r.is a.left a.right r.left r.right in
    IfOk-weaker c.over_two.result _ (λ made. IsFreshFor made a.plan.now a.schemas.now)
    (λ m h. h a.schemas.now a.on_left.now a.on_right.now a.plan.now _ r.left r.right r.checks over c.join-node.ensures) c.over_two.ensures
