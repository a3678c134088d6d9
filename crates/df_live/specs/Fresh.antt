-- A tree that was made for a plan and stands over empty frames.
use Rattle.std.specs.Prelude.{◌≡◌, ℕ, ◌+◌, ◌*◌, ◌^◌, ◌≤◌, Ok, List}
use Rattle.std.specs.FinMap as finite
use Rattle.df_value.specs.Schemas.{Columns}
use Rattle.df_expr.specs.declared.meter.Meter.{Meter}
use Rattle.df_column.specs.Tables.{TaggedRows}
use Rattle.df_delta.specs.Deltas.{RowsFit}
use Rattle.df_delta.specs.Work.{plus}
use Rattle.df_join.specs.Probes.{probes}
use Rattle.df_join.specs.Spread.{HasKeys, IsTagOver}
use Rattle.df_plan.specs.Checks.{plan_check, plan_scans}
use Rattle.df_plan.specs.Inputs.{from_inputs, inputs_of}
use Rattle.df_plan.specs.Meaning.{table_of}
use Rattle.df_plan.specs.declared.plan.Plan.{Plan, fold-Plan}
use Rattle.df_plan.specs.declared.plan.Plan.TheOpen.{Plan-F}
use Rattle.df_live.specs.Frames.{AreFrames, frame_at, rows_of_frames}
use Rattle.df_live.specs.Meaning.{differences, meaning, over_one}
use Rattle.df_live.specs.Trees.{IsOver, Takes, allowed, budget, output}
use Rattle.df_live.specs.contracts.operator.LiveOperatorLiveNode.TheImpl.{ghosts as operator_node}
use Rattle.df_live.specs.contracts.joined.JoinOperatorTwoSidedNode.TheImpl.{ghosts as join_node}
use Rattle.df_live.specs.declared.joined.JoinOperator.{JoinOperator}
use Rattle.df_live.specs.declared.building.Fresh.{Fresh}
use Rattle.df_live.specs.declared.operator.LiveOperator.{LiveOperator}

-- no frame has a row
pub record AreEmpty (frames : List TaggedRows) : Type 0 where
  pub at : (f : ℕ) → frame_at frames f ≡ finite.empty

-- no counter is above n
abbrev pub IsAtMost : Meter → ℕ → Type 0
IsAtMost a n = (a.evals ≤ n) × (a.finishes ≤ n) × (a.probes ≤ n) × (a.windows ≤ n)

-- the plan checks over frames of these schemas, and gives these columns
pub record Checks (plan : Plan) (schemas : List Columns) : Type 0 where
  pub columns : Columns
  pub checks : plan_check plan schemas ≡ Ok columns

abbrev pub nodes_step : Plan-F ℕ → ℕ
nodes_step p = 1 + from_inputs 0 (λ left right. left + right) (inputs_of p)

-- the number of nodes of a plan
abbrev pub nodes : Plan → ℕ
nodes p = fold-Plan ℕ nodes_step p

-- the node takes rows of these columns, of which it gives what the operator does, at its cost, and it stands over no rows
pub record IsNodeOf (node : LiveOperator) (columns : Columns) (operator : TaggedRows → TaggedRows) (cost : ℕ → Meter) : Type 0 where
  pub gives : (t : TaggedRows) → operator_node.output node t ≡ operator t
  pub work : (t u : TaggedRows) → operator_node.allowed node t u ≡ cost (differences t u)
  pub takes : (t : TaggedRows) → RowsFit columns t → operator_node.Takes node t
  pub over : operator_node.IsOver node finite.empty
  pub budgeted : IsAtMost (operator_node.budget node) (2 ^ 82)

-- the plan is one node over this input
pub record IsPlanOver (schemas : List Columns) (input plan : Plan) (operator : TaggedRows → TaggedRows) (cost : ℕ → Meter) : Type 0 where
  pub scans : plan_scans plan ≡ plan_scans input
  pub nodes_are : nodes plan ≡ nodes input + 1
  pub means : meaning schemas plan ≡ over_one (meaning schemas input) (meaning schemas plan).columns operator cost

-- the tree gives what the plan means, at its allowance; over frames of the schemas each node takes its inputs, and the rows
-- are those of the plan's table; and it stands over empty frames
pub record IsFreshFor (made : Fresh) (plan : Plan) (schemas : List Columns) : Type 0 where
  pub scans : made.scans ≡ plan_scans plan
  pub few : plan_scans plan ≤ 3
  pub schema : plan_check plan schemas ≡ Ok made.schema
  pub gives : (frames : List TaggedRows) → output made.tree frames ≡ (meaning schemas plan).gives frames
  pub work : (frames after : List TaggedRows) → allowed made.tree frames after ≡ (meaning schemas plan).work frames after
  pub takes : (frames : List TaggedRows) → AreFrames schemas frames → Takes made.tree frames
  pub rows : (frames : List TaggedRows) → AreFrames schemas frames → finite.values (output made.tree frames) ≡ (table_of plan schemas (rows_of_frames frames)).rows
  pub over : (frames : List TaggedRows) → AreEmpty frames → IsOver made.tree frames
  pub budgeted : IsAtMost (budget made.tree) (nodes plan * 2 ^ 82)

-- the node gives of rows of these columns, under the tags of so many scans, what the join does, and stands over no rows
pub record IsJoinOf (node : JoinOperator) (left right : Columns) (a b : ℕ) (joined : TaggedRows → TaggedRows → TaggedRows) : Type 0 where
  pub gives : (l r : TaggedRows) → join_node.output node l r ≡ joined l r
  pub work : (l m r s : TaggedRows) → join_node.allowed node l m r s ≡ probes (8 * (differences l m + differences r s))
  pub takes : (l r : TaggedRows) → RowsFit left l → RowsFit right r → HasKeys (IsTagOver a) l → HasKeys (IsTagOver b) r → join_node.Takes node l r
  pub over : join_node.IsOver node finite.empty finite.empty
  pub budgeted : IsAtMost (join_node.budget node) (2 ^ 82)

-- the plan is one node over these inputs, which is a join
pub record IsPlanOfTwo (schemas : List Columns) (left right plan : Plan) (joined : TaggedRows → TaggedRows → TaggedRows) : Type 0 where
  pub scans : plan_scans plan ≡ plan_scans left + plan_scans right
  pub nodes_are : nodes plan ≡ nodes left + nodes right + 1
  pub gives : (frames : List TaggedRows) → (meaning schemas plan).gives frames ≡ joined ((meaning schemas left).gives frames) ((meaning schemas right).gives frames)
  pub work : (frames after : List TaggedRows) →
      (meaning schemas plan).work frames after
      ≡ plus ((meaning schemas left).work frames after)
      (plus ((meaning schemas right).work frames after)
      (probes (8 * (differences ((meaning schemas left).gives frames) ((meaning schemas left).gives after)
      + differences ((meaning schemas right).gives frames) ((meaning schemas right).gives after)))))
