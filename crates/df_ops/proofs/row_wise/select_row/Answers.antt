use Rattle.std.proofs.Common.{◌∙◌, ap, length}
use Rattle.std.proofs.lemmas.List.{length-map}
use Rattle.std.proofs.lemmas.Result.{IfOk-weaker}
use Rattle.df_expr.specs.Physical.{physical_value}
use Rattle.df_ops.proofs.row_wise.select_row.Goals as goal

pub returns-clause-value : goal.returns-clause-value
returns-clause-value c columns of are = IfOk-weaker c.item_values.result _ _ (λ r e. e ∙ are c.args.row.now) c.item_values.ensures.value

pub returns-clause-cells : goal.returns-clause-cells
returns-clause-cells c =
    IfOk-weaker c.item_values.result _ _ (λ r e. ap length e ∙ length-map c.args.items.now (λ p. physical_value p c.args.row.now)) c.item_values.ensures.value
