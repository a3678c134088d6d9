use Rattle.std.proofs.Common.{arith}
use Rattle.std.proofs.lemmas.Grind.{common_steps}
use Rattle.df_expr.specs.declared.expr.Expr.TheFolds.{the_lemmas}
use Rattle.df_expr.proofs.evaluation.+values.Goals as goal

pub value_in-returns-in-Column : goal.value_in-returns-in-Column
value_in-returns-in-Column t c = grind (arith, common_steps, the_lemmas)

pub value_in-returns-in-Literal : goal.value_in-returns-in-Literal
value_in-returns-in-Literal t c = grind (arith, common_steps, the_lemmas)

pub value_in-returns-in-Arith : goal.value_in-returns-in-Arith
value_in-returns-in-Arith t c = grind (arith, common_steps, the_lemmas)

pub value_in-returns-in-Compare : goal.value_in-returns-in-Compare
value_in-returns-in-Compare t c = grind (arith, common_steps, the_lemmas)

pub value_in-returns-in-EqMissing : goal.value_in-returns-in-EqMissing
value_in-returns-in-EqMissing t c = grind (arith, common_steps, the_lemmas)

pub value_in-returns-in-And : goal.value_in-returns-in-And
value_in-returns-in-And t c = grind (arith, common_steps, the_lemmas)

pub value_in-returns-in-Or : goal.value_in-returns-in-Or
value_in-returns-in-Or t c = grind (arith, common_steps, the_lemmas)

pub value_in-returns-in-Not : goal.value_in-returns-in-Not
value_in-returns-in-Not t c = grind (arith, common_steps, the_lemmas)

pub value_in-returns-in-IsNull : goal.value_in-returns-in-IsNull
value_in-returns-in-IsNull t c = grind (arith, common_steps, the_lemmas)

pub value_in-returns-in-IsNotNull : goal.value_in-returns-in-IsNotNull
value_in-returns-in-IsNotNull t c = grind (arith, common_steps, the_lemmas)

pub value_in-returns-in-Null : goal.value_in-returns-in-Null
value_in-returns-in-Null t c = grind (arith, common_steps, the_lemmas)
