use Rattle.std.proofs.Common.{arith}
use Rattle.std.proofs.lemmas.Grind.{common_steps}
use Rattle.df_plan.specs.declared.plan.Plan.TheFolds.{the_lemmas}
use Rattle.df_plan.proofs.plan.+same_plan.Goals as goal

pub returns-else-same_plan : goal.returns-else-same_plan
returns-else-same_plan t c = grind (arith, common_steps, the_lemmas)

pub returns-else-same_plan-2 : goal.returns-else-same_plan-2
returns-else-same_plan-2 t c = grind (arith, common_steps, the_lemmas)

pub returns-else-same_plan-3 : goal.returns-else-same_plan-3
returns-else-same_plan-3 t c = grind (arith, common_steps, the_lemmas)

pub returns-else-same_plan-4 : goal.returns-else-same_plan-4
returns-else-same_plan-4 t c = grind (arith, common_steps, the_lemmas)

pub returns-else-same_plan-5 : goal.returns-else-same_plan-5
returns-else-same_plan-5 t c = grind (arith, common_steps, the_lemmas)

pub returns-else-same_plan-6 : goal.returns-else-same_plan-6
returns-else-same_plan-6 t c = grind (arith, common_steps, the_lemmas)

pub returns-else-same_plan-7 : goal.returns-else-same_plan-7
returns-else-same_plan-7 t c = grind (arith, common_steps, the_lemmas)

pub returns-else-same_plan-8 : goal.returns-else-same_plan-8
returns-else-same_plan-8 t c = grind (arith, common_steps, the_lemmas)

pub returns-in_default : goal.returns-in_default
returns-in_default t c = grind (arith, common_steps)

pub returns-in_default-2 : goal.returns-in_default-2
returns-in_default-2 t c = grind (arith, common_steps)

pub returns-in_default-3 : goal.returns-in_default-3
returns-in_default-3 t c = grind (arith, common_steps)

pub returns-in_default-4 : goal.returns-in_default-4
returns-in_default-4 t c = grind (arith, common_steps)

pub returns-in_default-5 : goal.returns-in_default-5
returns-in_default-5 t c = grind (arith, common_steps)

pub returns-in_default-6 : goal.returns-in_default-6
returns-in_default-6 t c = grind (arith, common_steps)

pub returns-in_default-7 : goal.returns-in_default-7
returns-in_default-7 t c = grind (arith, common_steps)

pub returns-in_default-8 : goal.returns-in_default-8
returns-in_default-8 t c = grind (arith, common_steps)

pub returns-in_default-9 : goal.returns-in_default-9
returns-in_default-9 t c = grind (arith, common_steps)

pub returns-else-eq : goal.returns-else-eq
returns-else-eq t c = grind (arith, common_steps)

pub returns-else-same_names : goal.returns-else-same_names
returns-else-same_names t c = grind (arith, common_steps)

pub returns-in-Scan-Scan : goal.returns-in-Scan-Scan
returns-in-Scan-Scan t c = grind (arith, common_steps)

pub returns-then-eq : goal.returns-then-eq
returns-then-eq t c = grind (arith, common_steps)

pub returns-then-same_names : goal.returns-then-same_names
returns-then-same_names t c = grind (arith, common_steps)

pub returns-then-same_plan : goal.returns-then-same_plan
returns-then-same_plan t c = grind (arith, common_steps)

pub returns-then-same_plan-2 : goal.returns-then-same_plan-2
returns-then-same_plan-2 t c = grind (arith, common_steps)

pub returns-then-same_plan-4 : goal.returns-then-same_plan-4
returns-then-same_plan-4 t c = grind (arith, common_steps)

pub returns-then-same_plan-6 : goal.returns-then-same_plan-6
returns-then-same_plan-6 t c = grind (arith, common_steps)

pub returns-then-same_plan-8 : goal.returns-then-same_plan-8
returns-then-same_plan-8 t c = grind (arith, common_steps)
