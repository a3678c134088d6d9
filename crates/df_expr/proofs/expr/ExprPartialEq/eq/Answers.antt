use Rattle.std.proofs.lemmas.Bool.Decides.{same_from_decides}
use Rattle.df_value.specs.Same.{same_by-Decides}
use Rattle.df_expr.specs.contracts.expr.Expr.{the_row}
use Rattle.df_expr.proofs.expr.ExprPartialEq.eq.Goals as goal

pub returns : goal.returns
returns c = same_from_decides _ _ c.same_expr.ensures (same_by-Decides the_row.coded c.args.self.now c.args.other.now)
