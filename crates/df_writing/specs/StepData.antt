-- A plan as data of a view document: the frame that it begins with, and its steps in order, as `steps_after` of df_text reads
-- them.
use Rattle.std.specs.Prelude.{◌++◌, ℕ, ℤ, Bool, true, false, List, [], ◌∷◌, Option, Some, None, codes, map, slice_get, if◌then◌else◌}
use Rattle.toml.specs.Data.{Data, string, integer, array, table, Items, no_items, item, no_members, member}
use Rattle.toml.specs.View.{items_of}
use Rattle.df_expr.specs.declared.expr.Expr.{Expr}
use Rattle.df_ops.specs.declared.agg.Agg.{Agg}
use Rattle.df_ops.specs.declared.joins.How.{How}
use Rattle.df_ops.specs.declared.joins.How.TheVariants as how
use Rattle.df_ops.specs.declared.ranks.RankKind.{RankKind}
use Rattle.df_ops.specs.declared.ranks.RankKind.TheVariants as rank
use Rattle.df_ops.specs.declared.windows.RollKind.{RollKind}
use Rattle.df_ops.specs.declared.windows.RollKind.TheVariants as roll
use Rattle.df_plan.specs.declared.plan.Plan.{Plan, fold-Plan}
use Rattle.df_plan.specs.declared.plan.Plan.TheOpen.{Plan-F}
use Rattle.df_text.specs.declared.document.FrameSpec.{FrameSpec}
use Rattle.df_writing.specs.ExpressionData.{aggregate_data, expr_data, operand_data, output_data, triple_data}
use Rattle.df_writing.specs.Texts.{data_text, quoted}

-- the index of the frame that a plan begins with, and the steps behind it
pub record Written : Type 0 where
  pub source : ℕ
  pub steps : List Data

abbrev pub name_of_frame : Option FrameSpec → List ℕ
name_of_frame (Some f) = f.name
name_of_frame None = []

-- the name of the frame at an index; no plan of a document reads one that is not there
abbrev pub frame_name : List FrameSpec → ℕ → List ℕ
frame_name frames at = name_of_frame (slice_get frames at)

-- names, in an array
abbrev pub names_data : List (List ℕ) → Data
names_data names = array (items_of (map string names))

-- a word and any number of outputs
abbrev pub outputs_data : List ℕ → List (List ℕ × Expr) → Data
outputs_data word outputs = array (item (string word) (items_of (map output_data outputs)))

abbrev pub group_by_data : List (List ℕ) → List (List ℕ × Agg) → Data
group_by_data keys aggregates = array (item (string (codes "group_by")) (item (names_data keys) (items_of (map aggregate_data aggregates))))

-- whether there is a step
abbrev pub has_any : List Data → Bool
has_any [] = false
has_any (d ∷ ds) = true

-- a table that begins with a frame and has steps
abbrev pub source_table : List ℕ → List Data → Data
source_table source steps = table (member (codes "from") (string source) (member (codes "steps") (array (items_of steps)) no_members))

abbrev pub plan_table : List FrameSpec → Written → Data
plan_table frames w = source_table (frame_name frames w.source) w.steps

-- the right side of a join: the name of a frame, or a table where steps follow it
abbrev pub side_data : List FrameSpec → Written → Data
side_data frames w =
    if has_any w.steps then plan_table frames w else string (frame_name frames w.source)

abbrev pub how_word : How → List ℕ
how_word how.Inner = codes "inner"
how_word how.Left = codes "left"

-- what stands behind the right side, where nulls are equal
abbrev pub nulls_items : Bool → Items
nulls_items true = item (string (codes "nulls_equal")) no_items
nulls_items false = no_items

-- a join up to its right side
abbrev pub join_head : How → List (List ℕ) → List ℕ
join_head h keys =
    codes "[" ++ (quoted (codes "join") ++ (codes ", " ++ (quoted (how_word h) ++ (codes ", " ++ (data_text (names_data keys) ++ codes ", ")))))

abbrev pub join_data : Data → How → List (List ℕ) → Bool → Data
join_data right h keys equal =
    array (item (string (codes "join")) (item (string (how_word h)) (item (names_data keys) (item right (nulls_items equal)))))

abbrev pub rolling_word : RollKind → List ℕ
rolling_word roll.Sum = codes "rolling_sum"
rolling_word roll.Min = codes "rolling_min"
rolling_word roll.Max = codes "rolling_max"

-- the numbers of a window
abbrev pub window_items : ℤ → ℤ → Items
window_items w m = item (integer w) (item (integer m) no_items)

abbrev pub rolling_data : List ℕ → RollKind → List ℕ → ℤ → ℤ → Data
rolling_data output kind column w m =
    array (item (string (rolling_word kind)) (item (string output) (item (string column) (window_items w m))))

abbrev pub rank_word : RankKind → List ℕ
rank_word rank.Dense = codes "dense"
rank_word rank.Min = codes "min"

abbrev pub rank_data : List ℕ → RankKind → List ℕ → Data
rank_data output kind column =
    array (item (string (codes "rank")) (item (string output) (item (string (rank_word kind)) (item (string column) no_items))))

-- one more step
abbrev pub then_step : Written → Data → Written
then_step w d = record { source = w.source; steps = w.steps ++ d ∷ [] }

abbrev pub written_step : List FrameSpec → Plan-F Written → Written
written_step frames (Plan-F.Scan frame) = record { source = frame; steps = [] }
written_step frames (Plan-F.Filter input e) = then_step input (operand_data (codes "filter") (expr_data e))
written_step frames (Plan-F.Select input outputs) = then_step input (outputs_data (codes "select") outputs)
written_step frames (Plan-F.WithColumns input outputs) = then_step input (outputs_data (codes "with_columns") outputs)
written_step frames (Plan-F.GroupBy input keys aggregates) = then_step input (group_by_data keys aggregates)
written_step frames (Plan-F.Join left right h keys equal) = then_step left (join_data (side_data frames right) h keys equal)
written_step frames (Plan-F.Rolling input output kind column w m) = then_step input (rolling_data output kind column w m)
written_step frames (Plan-F.CumSum input output column) =
    then_step input (triple_data (string (codes "cum_sum")) (string output) (string column))
written_step frames (Plan-F.Rank input output kind column) = then_step input (rank_data output kind column)

-- a plan over these frames
abbrev pub written : List FrameSpec → Plan → Written
written frames p = fold-Plan Written (written_step frames) p
