-- The inputs of a plan's node.
use Rattle.df_plan.specs.declared.plan.Plan.TheOpen.{Plan-F}

-- what stands for the inputs of a node: nothing for a scan, both for a join, and one for every other
pub data Inputs (A : Type 0) : Type 0 where
  none : Inputs A
  one : A → Inputs A
  two : A → A → Inputs A

abbrev pub inputs_of : {A : Type 0} → Plan-F A → Inputs A
inputs_of (Plan-F.Scan frame) = none
inputs_of (Plan-F.Filter input p) = one input
inputs_of (Plan-F.Select input items) = one input
inputs_of (Plan-F.WithColumns input items) = one input
inputs_of (Plan-F.GroupBy input keys aggs) = one input
inputs_of (Plan-F.Join left right h keys nulls_equal) = two left right
inputs_of (Plan-F.Rolling input output k column w m) = one input
inputs_of (Plan-F.CumSum input output column) = one input
inputs_of (Plan-F.Rank input output k column) = one input

-- a value of a node: one of its own where it has no input, that of its one input, or the two inputs' together
abbrev pub from_inputs : {A : Type 0} → A → (A → A → A) → Inputs A → A
from_inputs own join none = own
from_inputs own join (one input) = input
from_inputs own join (two left right) = join left right
