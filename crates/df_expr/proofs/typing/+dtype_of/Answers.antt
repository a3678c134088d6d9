use Rattle.std.proofs.Common.{arith}
use Rattle.std.proofs.lemmas.Grind.{common_steps}
use Rattle.df_expr.specs.declared.expr.Expr.TheFolds.{the_lemmas}
use Rattle.df_expr.proofs.typing.+dtype_of.Goals as goal

pub returns-in-Column : goal.returns-in-Column
returns-in-Column t c = grind (arith, common_steps, the_lemmas)

pub returns-in-Literal : goal.returns-in-Literal
returns-in-Literal t c = grind (arith, common_steps, the_lemmas)

pub returns-in_ok-b-in-And : goal.returns-in_ok-b-in-And
returns-in_ok-b-in-And t c = grind (arith, common_steps, the_lemmas)

pub returns-in_ok-b-in-Arith : goal.returns-in_ok-b-in-Arith
returns-in_ok-b-in-Arith t c = grind (arith, common_steps, the_lemmas)

pub returns-in_ok-b-in-Compare : goal.returns-in_ok-b-in-Compare
returns-in_ok-b-in-Compare t c = grind (arith, common_steps, the_lemmas)

pub returns-in_ok-b-in-FillNull : goal.returns-in_ok-b-in-FillNull
returns-in_ok-b-in-FillNull t c = grind (arith, common_steps, the_lemmas)

pub returns-in_ok-dtype_of-in-IsNull : goal.returns-in_ok-dtype_of-in-IsNull
returns-in_ok-dtype_of-in-IsNull t c = grind (arith, common_steps, the_lemmas)

pub returns-in_ok-dtype_of-in-Not : goal.returns-in_ok-dtype_of-in-Not
returns-in_ok-dtype_of-in-Not t c = grind (arith, common_steps, the_lemmas)
