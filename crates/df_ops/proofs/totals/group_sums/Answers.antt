use Rattle.std.proofs.lemmas.Result.{IfOk-weaker}
use Rattle.df_ops.proofs.GroupSums.{group_sums_total}
use Rattle.df_ops.proofs.totals.group_sums.Goals as goal

pub returns-clause-whole : goal.returns-clause-whole
returns-clause-whole c =
    IfOk-weaker c.sums_of_groups.result _ _ (λ sums e. rw e (group_sums_total c.args.indices.now c.args.index c.args.rows.now)) c.sums_of_groups.ensures
