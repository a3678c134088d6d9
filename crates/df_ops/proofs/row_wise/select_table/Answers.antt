use Rattle.std.proofs.lemmas.Result.{IfOk-weaker}
use Rattle.df_ops.proofs.ColumnLaws.{select_values}
use Rattle.df_ops.proofs.row_wise.select_table.Goals as goal

pub returns-clause-items : goal.returns-clause-items
returns-clause-items c =
    IfOk-weaker c.table_of_items.result _ _ (λ t e. rw e (select_values c.args.table.now c.args.items.now)) c.table_of_items.ensures
