-- The plans that a view document can say, and that what is written of one is read as this plan.
use Rattle.std.specs.Prelude.{◌≡◌, ◌+◌, ◌==◌, ◌&&◌, ℕ, Bool, true, false, List, Option, Some, None, Ok, is_ok, nat_le}
use Rattle.std.specs.List.{list_all}
use Rattle.toml.specs.Data.{Data}
use Rattle.toml.specs.View.{items_of}
use Rattle.df_value.specs.Names.{index_of_name}
use Rattle.df_expr.specs.Typing.{literal_dtype}
use Rattle.df_expr.specs.declared.expr.Expr.{Expr, fold-Expr}
use Rattle.df_expr.specs.declared.expr.Expr.TheOpen.{Expr-F}
use Rattle.df_plan.specs.declared.plan.Plan.{Plan, fold-Plan}
use Rattle.df_plan.specs.declared.plan.Plan.TheOpen.{Plan-F}
use Rattle.df_plan.specs.declared.plan.Plan.TheVariants.{Scan}
use Rattle.df_text.specs.Document.{view_of}
use Rattle.df_text.specs.Sources.{most_steps}
use Rattle.df_text.specs.Steps.{steps_after}
use Rattle.df_text.specs.declared.document.FrameSpec.{FrameSpec}
use Rattle.df_text.specs.declared.document.Location.{Location}
use Rattle.df_text.specs.declared.document.ViewSpec.{ViewSpec}
use Rattle.df_writing.specs.StepData.{frame_name, written}

abbrev pub is_said_step : Expr-F Bool → Bool
is_said_step (Expr-F.Column name) = true
is_said_step (Expr-F.Literal c t) = is_ok (literal_dtype c t)
is_said_step (Expr-F.Arith op a b) = a && b
is_said_step (Expr-F.Compare op a b) = a && b
is_said_step (Expr-F.EqMissing a b) = a && b
is_said_step (Expr-F.And a b) = a && b
is_said_step (Expr-F.Or a b) = a && b
is_said_step (Expr-F.Not a) = a
is_said_step (Expr-F.IsNull a) = a
is_said_step (Expr-F.IsNotNull a) = a
is_said_step (Expr-F.FillNull a b) = a && b

-- whether each literal of an expression has its type
abbrev pub is_said : Expr → Bool
is_said e = fold-Expr Bool is_said_step e

abbrev pub are_said : List (List ℕ × Expr) → Bool
are_said outputs = list_all (λ o. is_said o.1) outputs

abbrev pub is_index : Option ℕ → ℕ → Bool
is_index None at = false
is_index (Some i) at = i == at

-- whether the frame at an index is the first of its name
abbrev pub is_named : List FrameSpec → ℕ → Bool
is_named frames at = is_index (index_of_name (λ (f : FrameSpec). f.name) (frame_name frames at) frames) at

-- how many steps a plan has, and whether a document can say it
pub record Sayable : Type 0 where
  pub steps : ℕ
  pub said : Bool

abbrev pub and_said : Sayable → Bool → Sayable
and_said s said = record { steps = s.steps + 1; said = s.said && said }

abbrev pub sayable_step : List FrameSpec → Plan-F Sayable → Sayable
sayable_step frames (Plan-F.Scan frame) = record { steps = 0; said = is_named frames frame }
sayable_step frames (Plan-F.Filter input e) = and_said input (is_said e)
sayable_step frames (Plan-F.Select input outputs) = and_said input (are_said outputs)
sayable_step frames (Plan-F.WithColumns input outputs) = and_said input (are_said outputs)
sayable_step frames (Plan-F.GroupBy input keys aggregates) = and_said input true
sayable_step frames (Plan-F.Join left right h keys equal) = and_said left (right.said && nat_le right.steps most_steps)
sayable_step frames (Plan-F.Rolling input output kind column w m) = and_said input true
sayable_step frames (Plan-F.CumSum input output column) = and_said input true
sayable_step frames (Plan-F.Rank input output kind column) = and_said input true

abbrev pub sayable : List FrameSpec → Plan → Sayable
sayable frames p = fold-Plan Sayable (sayable_step frames) p

-- whether a document can say a plan over these frames: their names differ, literals have their types, and right sides have few steps
abbrev pub can_be_said : List FrameSpec → Plan → Bool
can_be_said frames p = (sayable frames p).said

-- what is written of a plan is read as this plan
unfoldable pub IsReadBack : List FrameSpec → Plan → Type 0
IsReadBack frames p =
    (at : Location) → steps_after at 0 frames (Scan (written frames p).source) (items_of (written frames p).steps) ≡ Ok p

-- a document can say the plan of each view that is read over these frames, whichever stand before it
unfoldable pub AreSaid : List FrameSpec → Type 0
AreSaid frames = (before : List ViewSpec) (d : Data) (v : ViewSpec) → view_of frames before d ≡ Ok v → can_be_said frames v.plan ≡ true
