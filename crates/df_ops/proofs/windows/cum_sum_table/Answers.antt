use Rattle.std.proofs.lemmas.Result.{IfOk-weaker}
use Rattle.df_ops.proofs.ColumnLaws.{cum_sum_column}
use Rattle.df_ops.proofs.windows.cum_sum_table.Goals as goal

pub returns-clause-column : goal.returns-clause-column
returns-clause-column c fit =
    IfOk-weaker c.table_with_cum_sum.result _ _ (λ t e. rw e (cum_sum_column c.args.table.now c.args.output.now c.args.column.now fit)) c.table_with_cum_sum.ensures
