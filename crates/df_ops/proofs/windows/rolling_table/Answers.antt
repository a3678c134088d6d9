use Rattle.std.proofs.lemmas.Result.{IfOk-weaker}
use Rattle.df_ops.proofs.ColumnLaws.{rolling_column}
use Rattle.df_ops.proofs.windows.rolling_table.Goals as goal

pub returns-clause-column : goal.returns-clause-column
returns-clause-column c fit =
    IfOk-weaker c.table_with_rolling.result _ _ (λ t e. rw e (rolling_column c.args.table.now c.args.output.now c.args.kind c.args.column.now c.args.w c.args.m fit)) c.table_with_rolling.ensures
