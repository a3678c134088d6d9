use Rattle.std.proofs.lemmas.Result.{IfOk-weaker}
use Rattle.df_ops.proofs.ColumnLaws.{rank_column}
use Rattle.df_ops.proofs.ranks.rank_table.Goals as goal

pub returns-clause-column : goal.returns-clause-column
returns-clause-column c fit =
    IfOk-weaker c.table_with_ranks.result _ _ (λ t e. rw e (rank_column c.args.table.now c.args.output.now c.args.kind c.args.column.now fit)) c.table_with_ranks.ensures
