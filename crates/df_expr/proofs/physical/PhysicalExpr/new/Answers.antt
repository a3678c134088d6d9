use Rattle.std.proofs.Common.{ap, ◌∙◌}
use Rattle.std.proofs.lemmas.Result.{IfOk-weaker}
use Rattle.df_expr.specs.Physical.{physical_value}
use Rattle.df_expr.proofs.PhysicalIs.{physical_is}
use Rattle.df_expr.proofs.physical.PhysicalExpr.new.Goals as goal

pub returns : goal.returns
returns c =
    IfOk-weaker c.physical_of.result _ _ (λ p e row. ap (λ q. physical_value q row) e ∙ physical_is c.args.columns.now c.args.expr.now row) c.physical_of.ensures
