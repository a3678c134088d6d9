use Rattle.std.proofs.lemmas.Result.{IfOk-weaker}
use Rattle.df_ops.proofs.ColumnLaws.{with_columns_names, with_columns_dtypes, with_columns_others, with_columns_values}
use Rattle.df_ops.proofs.row_wise.with_columns_table.Goals as goal

pub returns-clause-items : goal.returns-clause-items
returns-clause-items c fit =
    IfOk-weaker c.table_with_items.result _ _ (λ t e. rw e (with_columns_values c.args.table.now c.args.items.now fit)) c.table_with_items.ensures

pub returns-clause-others : goal.returns-clause-others
returns-clause-others c fit =
    IfOk-weaker c.table_with_items.result _ _ (λ t e. rw e (with_columns_others c.args.table.now c.args.items.now fit)) c.table_with_items.ensures

pub returns-clause-names : goal.returns-clause-names
returns-clause-names c =
    IfOk-weaker c.table_with_items.result _ _ (λ t e. rw e (with_columns_names c.args.table.now c.args.items.now)) c.table_with_items.ensures

pub returns-clause-dtypes : goal.returns-clause-dtypes
returns-clause-dtypes c =
    IfOk-weaker c.table_with_items.result _ _ (λ t e. rw e (with_columns_dtypes c.args.table.now c.args.items.now)) c.table_with_items.ensures
