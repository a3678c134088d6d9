use Rattle.std.proofs.lemmas.Result.{IfOk-weaker}
use Rattle.df_ops.proofs.Partition.{group_lengths_sum}
use Rattle.df_ops.proofs.groups.group_lengths.Goals as goal

pub returns-clause-whole : goal.returns-clause-whole
returns-clause-whole c =
    IfOk-weaker c.lengths_of_groups.result _ _ (λ lengths e. rw e (group_lengths_sum c.args.indices.now c.args.rows.now)) c.lengths_of_groups.ensures
