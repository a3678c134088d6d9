use Rattle.std.proofs.Common.{arith}
use Rattle.std.proofs.lemmas.Grind.{common_steps}
use Rattle.df_expr.specs.declared.expr.Expr.TheFolds.{the_lemmas}
use Rattle.df_expr.proofs.expr.+copying.Goals as goal

pub ExprDuplicate::copy-returns-in-Not : goal.ExprDuplicate::copy-returns-in-Not
ExprDuplicate::copy-returns-in-Not t c = grind (arith, common_steps, the_lemmas)

pub ExprDuplicate::copy-returns-in-IsNull : goal.ExprDuplicate::copy-returns-in-IsNull
ExprDuplicate::copy-returns-in-IsNull t c = grind (arith, common_steps, the_lemmas)

pub ExprDuplicate::copy-returns-in-IsNotNull : goal.ExprDuplicate::copy-returns-in-IsNotNull
ExprDuplicate::copy-returns-in-IsNotNull t c = grind (arith, common_steps, the_lemmas)

pub ExprDuplicate::copy-returns-in_ok-copy-in-Column : goal.ExprDuplicate::copy-returns-in_ok-copy-in-Column
ExprDuplicate::copy-returns-in_ok-copy-in-Column t c = grind (arith, common_steps, the_lemmas)

pub ExprDuplicate::copy-returns-in_ok-copy-in-Literal : goal.ExprDuplicate::copy-returns-in_ok-copy-in-Literal
ExprDuplicate::copy-returns-in_ok-copy-in-Literal t c = grind (arith, common_steps, the_lemmas)

pub ExprDuplicate::copy-returns-in_ok-a-in-Arith : goal.ExprDuplicate::copy-returns-in_ok-a-in-Arith
ExprDuplicate::copy-returns-in_ok-a-in-Arith t c = grind (arith, common_steps, the_lemmas)

pub ExprDuplicate::copy-returns-in_ok-a-in-Compare : goal.ExprDuplicate::copy-returns-in_ok-a-in-Compare
ExprDuplicate::copy-returns-in_ok-a-in-Compare t c = grind (arith, common_steps, the_lemmas)

pub ExprDuplicate::copy-returns-in_ok-a-in-EqMissing : goal.ExprDuplicate::copy-returns-in_ok-a-in-EqMissing
ExprDuplicate::copy-returns-in_ok-a-in-EqMissing t c = grind (arith, common_steps, the_lemmas)

pub ExprDuplicate::copy-returns-in_ok-a-in-And : goal.ExprDuplicate::copy-returns-in_ok-a-in-And
ExprDuplicate::copy-returns-in_ok-a-in-And t c = grind (arith, common_steps, the_lemmas)

pub ExprDuplicate::copy-returns-in_ok-a-in-Or : goal.ExprDuplicate::copy-returns-in_ok-a-in-Or
ExprDuplicate::copy-returns-in_ok-a-in-Or t c = grind (arith, common_steps, the_lemmas)

pub ExprDuplicate::copy-returns-in_ok-a-in-FillNull : goal.ExprDuplicate::copy-returns-in_ok-a-in-FillNull
ExprDuplicate::copy-returns-in_ok-a-in-FillNull t c = grind (arith, common_steps, the_lemmas)
