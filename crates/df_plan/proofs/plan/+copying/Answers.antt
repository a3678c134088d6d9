use Rattle.std.proofs.Common.{arith}
use Rattle.std.proofs.lemmas.Grind.{common_steps}
use Rattle.df_plan.specs.declared.plan.Plan.TheFolds.{the_lemmas}
use Rattle.df_plan.proofs.plan.+copying.Goals as goal

pub PlanDuplicate::copy-returns-in-Scan : goal.PlanDuplicate::copy-returns-in-Scan
PlanDuplicate::copy-returns-in-Scan t c = grind (arith, common_steps, the_lemmas)

pub PlanDuplicate::copy-returns-in_ok-input-in-Filter : goal.PlanDuplicate::copy-returns-in_ok-input-in-Filter
PlanDuplicate::copy-returns-in_ok-input-in-Filter t c = grind (arith, common_steps, the_lemmas)

pub PlanDuplicate::copy-returns-in_ok-input-in-Select : goal.PlanDuplicate::copy-returns-in_ok-input-in-Select
PlanDuplicate::copy-returns-in_ok-input-in-Select t c = grind (arith, common_steps, the_lemmas)

pub PlanDuplicate::copy-returns-in_ok-input-in-WithColumns : goal.PlanDuplicate::copy-returns-in_ok-input-in-WithColumns
PlanDuplicate::copy-returns-in_ok-input-in-WithColumns t c = grind (arith, common_steps, the_lemmas)

pub PlanDuplicate::copy-returns-in_ok-input-in-GroupBy : goal.PlanDuplicate::copy-returns-in_ok-input-in-GroupBy
PlanDuplicate::copy-returns-in_ok-input-in-GroupBy t c = grind (arith, common_steps, the_lemmas)

pub PlanDuplicate::copy-returns-in_ok-input-in-Rolling : goal.PlanDuplicate::copy-returns-in_ok-input-in-Rolling
PlanDuplicate::copy-returns-in_ok-input-in-Rolling t c = grind (arith, common_steps, the_lemmas)

pub PlanDuplicate::copy-returns-in_ok-input-in-CumSum : goal.PlanDuplicate::copy-returns-in_ok-input-in-CumSum
PlanDuplicate::copy-returns-in_ok-input-in-CumSum t c = grind (arith, common_steps, the_lemmas)

pub PlanDuplicate::copy-returns-in_ok-input-in-Rank : goal.PlanDuplicate::copy-returns-in_ok-input-in-Rank
PlanDuplicate::copy-returns-in_ok-input-in-Rank t c = grind (arith, common_steps, the_lemmas)

pub PlanDuplicate::copy-returns-in_ok-left-in-Join : goal.PlanDuplicate::copy-returns-in_ok-left-in-Join
PlanDuplicate::copy-returns-in_ok-left-in-Join t c = grind (arith, common_steps, the_lemmas)
