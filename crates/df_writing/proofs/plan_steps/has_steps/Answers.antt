use Rattle.df_writing.proofs.PlanFacts.{written-CumSum, written-Filter, written-GroupBy, written-Join, written-Rank, written-Rolling, written-Select, written-WithColumns}
use Rattle.df_writing.proofs.StepFacts.{some-step}
use Rattle.df_writing.proofs.plan_steps.has_steps.Goals as goal

pub returns-in-Filter : goal.returns-in-Filter
returns-in-Filter c frames = rw c.in-Filter.is (some-step _ _ _ (written-Filter frames _ _))

pub returns-in-Select : goal.returns-in-Select
returns-in-Select c frames = rw c.in-Select.is (some-step _ _ _ (written-Select frames _ _))

pub returns-in-WithColumns : goal.returns-in-WithColumns
returns-in-WithColumns c frames = rw c.in-WithColumns.is (some-step _ _ _ (written-WithColumns frames _ _))

pub returns-in-GroupBy : goal.returns-in-GroupBy
returns-in-GroupBy c frames = rw c.in-GroupBy.is (some-step _ _ _ (written-GroupBy frames _ _ _))

pub returns-in-Join : goal.returns-in-Join
returns-in-Join c frames = rw c.in-Join.is (some-step _ _ _ (written-Join frames _ _ _ _ _))

pub returns-in-Rolling : goal.returns-in-Rolling
returns-in-Rolling c frames = rw c.in-Rolling.is (some-step _ _ _ (written-Rolling frames _ _ _ _ _ _))

pub returns-in-CumSum : goal.returns-in-CumSum
returns-in-CumSum c frames = rw c.in-CumSum.is (some-step _ _ _ (written-CumSum frames _ _ _))

pub returns-in-Rank : goal.returns-in-Rank
returns-in-Rank c frames = rw c.in-Rank.is (some-step _ _ _ (written-Rank frames _ _ _ _))
