use Rattle.std.proofs.Common.{arith}
use Rattle.std.proofs.lemmas.Grind.{common_steps}
use Rattle.df_expr.specs.declared.expr.Expr.TheFolds.{the_lemmas}
use Rattle.df_expr.proofs.physical.+resolving.Goals as goal

pub physical_of-returns-in-Column : goal.physical_of-returns-in-Column
physical_of-returns-in-Column t c = grind (arith, common_steps, the_lemmas)

pub physical_of-returns-in-Not : goal.physical_of-returns-in-Not
physical_of-returns-in-Not t c = grind (arith, common_steps, the_lemmas)

pub physical_of-returns-in-IsNull : goal.physical_of-returns-in-IsNull
physical_of-returns-in-IsNull t c = grind (arith, common_steps, the_lemmas)

pub physical_of-returns-in-IsNotNull : goal.physical_of-returns-in-IsNotNull
physical_of-returns-in-IsNotNull t c = grind (arith, common_steps, the_lemmas)

pub physical_of-returns-in_ok-copy-in-Literal : goal.physical_of-returns-in_ok-copy-in-Literal
physical_of-returns-in_ok-copy-in-Literal t c = grind (arith, common_steps, the_lemmas)

pub physical_of-returns-in_ok-a-in-Arith : goal.physical_of-returns-in_ok-a-in-Arith
physical_of-returns-in_ok-a-in-Arith t c = grind (arith, common_steps, the_lemmas)

pub physical_of-returns-in_ok-a-in-Compare : goal.physical_of-returns-in_ok-a-in-Compare
physical_of-returns-in_ok-a-in-Compare t c = grind (arith, common_steps, the_lemmas)

pub physical_of-returns-in_ok-a-in-EqMissing : goal.physical_of-returns-in_ok-a-in-EqMissing
physical_of-returns-in_ok-a-in-EqMissing t c = grind (arith, common_steps, the_lemmas)

pub physical_of-returns-in_ok-a-in-And : goal.physical_of-returns-in_ok-a-in-And
physical_of-returns-in_ok-a-in-And t c = grind (arith, common_steps, the_lemmas)

pub physical_of-returns-in_ok-a-in-Or : goal.physical_of-returns-in_ok-a-in-Or
physical_of-returns-in_ok-a-in-Or t c = grind (arith, common_steps, the_lemmas)

pub physical_of-returns-in_ok-a-in-FillNull : goal.physical_of-returns-in_ok-a-in-FillNull
physical_of-returns-in_ok-a-in-FillNull t c = grind (arith, common_steps, the_lemmas)
