use Rattle.std.proofs.Common.{arith}
use Rattle.std.proofs.lemmas.Grind.{common_steps}
use Rattle.df_plan.specs.declared.plan.Plan.TheFolds.{the_lemmas}
use Rattle.df_plan.proofs.checks.+schema_of.Goals as goal

pub returns-in-Scan : goal.returns-in-Scan
returns-in-Scan t c = grind (arith, common_steps, the_lemmas)

pub returns-in_err-columns-in-Filter : goal.returns-in_err-columns-in-Filter
returns-in_err-columns-in-Filter t c = grind (arith, common_steps, the_lemmas)

pub returns-in_ok-columns-in-Filter : goal.returns-in_ok-columns-in-Filter
returns-in_ok-columns-in-Filter t c = grind (arith, common_steps, the_lemmas)

pub returns-in_err-columns-in-Select : goal.returns-in_err-columns-in-Select
returns-in_err-columns-in-Select t c = grind (arith, common_steps, the_lemmas)

pub returns-in_ok-columns-in-Select : goal.returns-in_ok-columns-in-Select
returns-in_ok-columns-in-Select t c = grind (arith, common_steps, the_lemmas)

pub returns-in_err-columns-in-WithColumns : goal.returns-in_err-columns-in-WithColumns
returns-in_err-columns-in-WithColumns t c = grind (arith, common_steps, the_lemmas)

pub returns-in_ok-columns-in-WithColumns : goal.returns-in_ok-columns-in-WithColumns
returns-in_ok-columns-in-WithColumns t c = grind (arith, common_steps, the_lemmas)

pub returns-in_err-columns-in-GroupBy : goal.returns-in_err-columns-in-GroupBy
returns-in_err-columns-in-GroupBy t c = grind (arith, common_steps, the_lemmas)

pub returns-in_ok-columns-in-GroupBy : goal.returns-in_ok-columns-in-GroupBy
returns-in_ok-columns-in-GroupBy t c = grind (arith, common_steps, the_lemmas)

pub returns-in_err-columns-in-Rolling : goal.returns-in_err-columns-in-Rolling
returns-in_err-columns-in-Rolling t c = grind (arith, common_steps, the_lemmas)

pub returns-in_ok-columns-in-Rolling : goal.returns-in_ok-columns-in-Rolling
returns-in_ok-columns-in-Rolling t c = grind (arith, common_steps, the_lemmas)

pub returns-in_err-columns-in-CumSum : goal.returns-in_err-columns-in-CumSum
returns-in_err-columns-in-CumSum t c = grind (arith, common_steps, the_lemmas)

pub returns-in_ok-columns-in-CumSum : goal.returns-in_ok-columns-in-CumSum
returns-in_ok-columns-in-CumSum t c = grind (arith, common_steps, the_lemmas)

pub returns-in_err-columns-in-Rank : goal.returns-in_err-columns-in-Rank
returns-in_err-columns-in-Rank t c = grind (arith, common_steps, the_lemmas)

pub returns-in_ok-columns-in-Rank : goal.returns-in_ok-columns-in-Rank
returns-in_ok-columns-in-Rank t c = grind (arith, common_steps, the_lemmas)

pub returns-in_err-left-in-Join : goal.returns-in_err-left-in-Join
returns-in_err-left-in-Join t c = grind (arith, common_steps, the_lemmas)

pub returns-in_ok-left-in-Join : goal.returns-in_ok-left-in-Join
returns-in_ok-left-in-Join t c = grind (arith, common_steps, the_lemmas)
