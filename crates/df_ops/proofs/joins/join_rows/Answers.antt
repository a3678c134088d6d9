use Rattle.std.proofs.lemmas.Result.{IfOk-weaker}
use Rattle.df_ops.proofs.JoinLaws.{inner_is_left, rows_count}
use Rattle.df_ops.proofs.JoinCells.{joins_in_order}
use Rattle.df_ops.proofs.SelfJoin.{joins_itself}
use Rattle.df_ops.proofs.joins.join_rows.Goals as goal

pub returns-clause-count : goal.returns-clause-count
returns-clause-count c =
    IfOk-weaker c.all_joined.result _ _
    (λ rows e. rw e (rows_count c.args.how c.args.join_indices.now c.args.lefts.now c.args.rights.now)) c.all_joined.ensures

pub returns-clause-inner_is_left : goal.returns-clause-inner_is_left
returns-clause-inner_is_left c = inner_is_left c.args.join_indices.now c.args.rights.now c.args.lefts.now

pub returns-clause-left_order : goal.returns-clause-left_order
returns-clause-left_order c = joins_in_order c.args.how c.args.join_indices.now c.args.rights.now

pub returns-clause-itself : goal.returns-clause-itself
returns-clause-itself c = joins_itself c.args.how c.args.join_indices.now c.args.lefts.now
