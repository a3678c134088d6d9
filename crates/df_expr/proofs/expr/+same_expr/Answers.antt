use Rattle.std.proofs.Common.{arith}
use Rattle.std.proofs.lemmas.Grind.{common_steps}
use Rattle.df_expr.specs.declared.expr.Expr.TheFolds.{the_lemmas}
use Rattle.df_expr.proofs.expr.+same_expr.Goals as goal

pub returns-in_default : goal.returns-in_default
returns-in_default t c = grind (arith, common_steps)

pub returns-in_default-2 : goal.returns-in_default-2
returns-in_default-2 t c = grind (arith, common_steps)

pub returns-in_default-3 : goal.returns-in_default-3
returns-in_default-3 t c = grind (arith, common_steps)

pub returns-in_default-4 : goal.returns-in_default-4
returns-in_default-4 t c = grind (arith, common_steps)

pub returns-in_default-5 : goal.returns-in_default-5
returns-in_default-5 t c = grind (arith, common_steps)

pub returns-in_default-6 : goal.returns-in_default-6
returns-in_default-6 t c = grind (arith, common_steps)

pub returns-in_default-7 : goal.returns-in_default-7
returns-in_default-7 t c = grind (arith, common_steps)

pub returns-in_default-8 : goal.returns-in_default-8
returns-in_default-8 t c = grind (arith, common_steps)

pub returns-in_default-9 : goal.returns-in_default-9
returns-in_default-9 t c = grind (arith, common_steps)

pub returns-in_default-10 : goal.returns-in_default-10
returns-in_default-10 t c = grind (arith, common_steps)

pub returns-in_default-11 : goal.returns-in_default-11
returns-in_default-11 t c = grind (arith, common_steps)

pub returns-in-Column-Column : goal.returns-in-Column-Column
returns-in-Column-Column t c = grind (arith, common_steps)

pub returns-then-same : goal.returns-then-same
returns-then-same t c = grind (arith, common_steps)

pub returns-else-same : goal.returns-else-same
returns-else-same t c = grind (arith, common_steps)

pub returns-then-same_expr : goal.returns-then-same_expr
returns-then-same_expr t c = grind (arith, common_steps, the_lemmas)

pub returns-else-same_expr : goal.returns-else-same_expr
returns-else-same_expr t c = grind (arith, common_steps, the_lemmas)

pub returns-then-same_expr-2 : goal.returns-then-same_expr-2
returns-then-same_expr-2 t c = grind (arith, common_steps, the_lemmas)

pub returns-else-same_expr-2 : goal.returns-else-same_expr-2
returns-else-same_expr-2 t c = grind (arith, common_steps, the_lemmas)

pub returns-then-same_expr-3 : goal.returns-then-same_expr-3
returns-then-same_expr-3 t c = grind (arith, common_steps, the_lemmas)

pub returns-else-same_expr-3 : goal.returns-else-same_expr-3
returns-else-same_expr-3 t c = grind (arith, common_steps, the_lemmas)

pub returns-in-Not-Not : goal.returns-in-Not-Not
returns-in-Not-Not t c = grind (arith, common_steps, the_lemmas)
