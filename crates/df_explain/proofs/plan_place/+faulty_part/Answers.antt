use Rattle.std.proofs.Common.{rules, arith}
use Rattle.std.proofs.lemmas.Grind.{common_steps}
use Rattle.df_plan.specs.declared.plan.Plan.TheFolds.{the_lemmas}
use Rattle.df_explain.proofs.PlaceFacts.{further}
use Rattle.df_explain.proofs.plan_place.+faulty_part.Goals as goal

pub returns-else-branch-clause-step : goal.returns-else-branch-clause-step
returns-else-branch-clause-step t c = further _ _ _ _ (search (rules, the_lemmas)) c.faulty_part.ensures.step

pub returns-else-branch-2-clause-step : goal.returns-else-branch-2-clause-step
returns-else-branch-2-clause-step t c = further _ _ _ _ (grind (arith, common_steps, the_lemmas)) c.faulty_part-in-Rolling.ensures.step

pub returns-else-branch-3-clause-step : goal.returns-else-branch-3-clause-step
returns-else-branch-3-clause-step t c = further _ _ _ _ (search (rules, the_lemmas)) c.faulty_part-in-GroupBy.ensures.step

pub returns-else-branch-4-clause-step : goal.returns-else-branch-4-clause-step
returns-else-branch-4-clause-step t c = further _ _ _ _ (search (rules, the_lemmas)) c.faulty_part-in-Filter.ensures.step
