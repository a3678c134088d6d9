use Rattle.std.proofs.lemmas.Result.{IfOk-weaker}
use Rattle.df_ops.proofs.Keys.{none_twice, each_row}
use Rattle.df_ops.proofs.KeyOrder.{of_a_row, stand_first}
use Rattle.df_ops.proofs.groups.keys_of.Goals as goal

pub returns-clause-none_twice : goal.returns-clause-none_twice
returns-clause-none_twice c =
    IfOk-weaker c.distinct_keys.result _ _ (λ keys e. rw e (none_twice c.args.indices.now c.args.rows.now)) c.distinct_keys.ensures

pub returns-clause-each_row : goal.returns-clause-each_row
returns-clause-each_row c =
    IfOk-weaker c.distinct_keys.result _ _ (λ keys e. rw e (each_row c.args.indices.now c.args.rows.now)) c.distinct_keys.ensures

pub returns-clause-of_a_row : goal.returns-clause-of_a_row
returns-clause-of_a_row c =
    IfOk-weaker c.distinct_keys.result _ _ (λ keys e. rw e (of_a_row c.args.indices.now c.args.rows.now)) c.distinct_keys.ensures

pub returns-clause-first_appearance : goal.returns-clause-first_appearance
returns-clause-first_appearance c =
    IfOk-weaker c.distinct_keys.result _ _ (λ keys e. rw e (stand_first c.args.indices.now c.args.rows.now)) c.distinct_keys.ensures
