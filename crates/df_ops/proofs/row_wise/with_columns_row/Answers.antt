use Rattle.std.proofs.Common.{◌∙◌, map, subst, sym}
use Rattle.std.proofs.lemmas.Result.{IfOk-weaker}
use Rattle.df_expr.specs.Physical.{physical_value}
use Rattle.df_ops.specs.RowWise.{KeepsOthers}
use Rattle.df_ops.proofs.PlacesFacts.{placed_values}
use Rattle.df_ops.proofs.RowWiseLaws.{keeps_others}
use Rattle.df_ops.proofs.row_wise.with_columns_row.Goals as goal

pub returns-clause-value : goal.returns-clause-value
returns-clause-value c columns of are at =
    IfOk-weaker c.put_values.result _ _
    (λ r e. e ∙ placed_values columns of c.args.row.now (map (λ p. physical_value p c.args.row.now) c.args.items.now) (are c.args.row.now) c.args.places.now at)
    c.put_values.ensures.value

pub returns-clause-others : goal.returns-clause-others
returns-clause-others c columns of are at fits =
    IfOk-weaker c.put_values.result _ _
    (λ r e. subst (KeepsOthers columns of c.args.row.now) (sym e) (keeps_others columns of c.args.row.now fits)) (returns-clause-value c columns of are at)
