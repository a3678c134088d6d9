-- The check of a plan: the columns of its result, or the first fault.
use Rattle.std.specs.Prelude.{◌+◌, ℕ, List, [], Option, Some, None, Ok, Err, max, nat_lt, slice_get, if◌then◌else◌}
use Rattle.df_value.specs.Outcomes.{then_next}
use Rattle.df_value.specs.declared.cell.CellType.TheVariants as dtype
use Rattle.df_value.specs.Schemas.{doubled_column_after}
use Rattle.df_expr.specs.declared.expr.Expr.{Expr}
use Rattle.df_expr.specs.declared.fault.ExprFault.TheVariants as expr
use Rattle.df_plan.specs.declared.fault.PlanFault.TheVariants as fault
use Rattle.df_ops.specs.declared.agg.Agg.{Agg}
use Rattle.df_plan.specs.declared.plan.Plan.{Plan, fold-Plan}
use Rattle.df_plan.specs.declared.plan.Plan.TheOpen.{Plan-F}
use Rattle.df_value.specs.Schemas.{Columns}
pub use Rattle.df_plan.specs.ItemChecks.{CheckResult}
pub use Rattle.df_plan.specs.ResultSchemas.{to_schema_unless, added_columns_check}
use Rattle.df_plan.specs.Limits.{most_plan_levels, most_scans}
use Rattle.df_plan.specs.Inputs.{inputs_of, from_inputs}
use Rattle.df_plan.specs.JoinChecks.{join_check}
use Rattle.df_plan.specs.WindowChecks.{rolling_check, cum_sum_check, rank_check}
use Rattle.df_plan.specs.ItemChecks.{DtypeResult, columns_after, expr_dtype_check, key_column_result, aggregate_column_result, select_column_result, with_columns_column_result}

abbrev pub to_schema : Columns → CheckResult
to_schema columns = to_schema_unless columns (doubled_column_after [] columns)

-- the columns of a filter are its input's, if the predicate's type is Bool
abbrev pub filter_check : Columns → DtypeResult → CheckResult
filter_check columns (Ok dtype.Bool) = Ok columns
filter_check columns (Ok t) = Err (fault.Expr expr.WrongType)
filter_check columns (Err f) = Err f

-- the columns of a select: one for each item, checked in turn
abbrev pub select_check : Columns → List (List ℕ × Expr) → CheckResult
select_check columns [] = Err fault.EmptyList
select_check columns items = then_next (columns_after (select_column_result columns) [] items) to_schema

-- the columns of a with_columns: the items', checked in turn, put among the input's
abbrev pub with_columns_check : Columns → List (List ℕ × Expr) → CheckResult
with_columns_check columns items = then_next (columns_after (with_columns_column_result columns) [] items) (added_columns_check columns)

-- the columns of a group-by: its keys, each checked in turn, then its outputs
abbrev pub group_by_check : Columns → List (List ℕ) → List (List ℕ × Agg) → CheckResult
group_by_check columns [] aggs = Err fault.EmptyList
group_by_check columns keys aggs =
    then_next (columns_after (key_column_result columns) [] keys)
    (λ out. then_next (columns_after (aggregate_column_result columns) out aggs) to_schema)

abbrev pub frame_check : ℕ → Option Columns → CheckResult
frame_check frame None = Err (fault.NoFrame frame)
frame_check frame (Some columns) = Ok columns

-- the check of one node, after that of its input
abbrev pub check_step : List Columns → Plan-F CheckResult → CheckResult
check_step frames (Plan-F.Scan frame) = frame_check frame (slice_get frames frame)
check_step frames (Plan-F.Filter input p) = then_next input (λ columns. filter_check columns (expr_dtype_check p columns))
check_step frames (Plan-F.Select input items) = then_next input (λ columns. select_check columns items)
check_step frames (Plan-F.WithColumns input items) = then_next input (λ columns. with_columns_check columns items)
check_step frames (Plan-F.GroupBy input keys aggs) = then_next input (λ columns. group_by_check columns keys aggs)
check_step frames (Plan-F.Join left right h keys nulls_equal) =
    then_next left (λ ls. then_next right (λ rs. join_check ls rs keys))
check_step frames (Plan-F.Rolling input output k column w m) =
    then_next input (λ columns. rolling_check columns output k column w m)
check_step frames (Plan-F.CumSum input output column) = then_next input (λ columns. cum_sum_check columns output column)
check_step frames (Plan-F.Rank input output k column) = then_next input (λ columns. rank_check columns output column)

-- the columns of a plan's result, or the first fault of a walk that visits inputs before their node
abbrev pub columns_of : Plan → List Columns → CheckResult
columns_of p frames = fold-Plan CheckResult (check_step frames) p

abbrev pub plan_levels_step : Plan-F ℕ → ℕ
plan_levels_step p = 1 + from_inputs 0 max (inputs_of p)

-- the nodes on the longest path
abbrev pub plan_levels : Plan → ℕ
plan_levels p = fold-Plan ℕ plan_levels_step p

abbrev pub plan_scans_step : Plan-F ℕ → ℕ
plan_scans_step p = from_inputs 1 (λ left right. left + right) (inputs_of p)

-- the scans, which are the leaves
abbrev pub plan_scans : Plan → ℕ
plan_scans p = fold-Plan ℕ plan_scans_step p

-- the answer of a check: too many levels come before all else, and then too many scans
abbrev pub plan_check : Plan → List Columns → CheckResult
plan_check p frames =
    if nat_lt most_plan_levels (plan_levels p) then Err fault.TooDeep
    else if nat_lt most_scans (plan_scans p) then Err fault.TooManyScans
    else columns_of p frames
