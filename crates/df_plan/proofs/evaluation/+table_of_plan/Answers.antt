use Rattle.std.proofs.Common.{arith}
use Rattle.std.proofs.lemmas.Grind.{common_steps}
use Rattle.df_plan.specs.declared.plan.Plan.TheFolds.{the_lemmas}
use Rattle.df_plan.proofs.evaluation.+table_of_plan.Goals as goal

pub returns-in-Scan : goal.returns-in-Scan
returns-in-Scan t c = grind (arith, common_steps, the_lemmas)

pub returns-in_ok-input-in-Filter : goal.returns-in_ok-input-in-Filter
returns-in_ok-input-in-Filter t c = grind (arith, common_steps, the_lemmas)

pub returns-in_ok-input-in-Select : goal.returns-in_ok-input-in-Select
returns-in_ok-input-in-Select t c = grind (arith, common_steps, the_lemmas)

pub returns-in_ok-input-in-WithColumns : goal.returns-in_ok-input-in-WithColumns
returns-in_ok-input-in-WithColumns t c = grind (arith, common_steps, the_lemmas)

pub returns-in_ok-input-in-GroupBy : goal.returns-in_ok-input-in-GroupBy
returns-in_ok-input-in-GroupBy t c = grind (arith, common_steps, the_lemmas)

pub returns-in_ok-input-in-Rolling : goal.returns-in_ok-input-in-Rolling
returns-in_ok-input-in-Rolling t c = grind (arith, common_steps, the_lemmas)

pub returns-in_ok-input-in-CumSum : goal.returns-in_ok-input-in-CumSum
returns-in_ok-input-in-CumSum t c = grind (arith, common_steps, the_lemmas)

pub returns-in_ok-input-in-Rank : goal.returns-in_ok-input-in-Rank
returns-in_ok-input-in-Rank t c = grind (arith, common_steps, the_lemmas)
