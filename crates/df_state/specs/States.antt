-- The states of a catalogue, and which of them are legal: in a legal state each view is the value of its plan over the
-- frames.
use Rattle.std.specs.Prelude.{◌≡◌, ◌≤◌, ℕ, IsTrue, List, [], length, map, replicate, Ok, bytes_eq}
use Rattle.std.specs.List.{list_all, AllZip, AllByRecursion, IsDistinct}
use Rattle.df_value.specs.declared.cell.Cell.{Cell}
use Rattle.df_value.specs.declared.cell.CellType.{CellType}
use Rattle.df_value.specs.Schemas.{is_base}
use Rattle.df_plan.specs.CheckedParts.{CheckedParts}
use Rattle.df_plan.specs.Checks.{plan_check}
use Rattle.df_plan.specs.Meaning.{table_of}
use Rattle.df_state.specs.declared.state.State.{State}
use Rattle.df_frame.specs.declared.state.FrameState.{FrameState}
use Rattle.df_frame.specs.Frames.{empty_frame, rows_of, IsFrame}
use Rattle.df_value.specs.Limits as limits

-- the opening state: empty frames and no views
abbrev pub opening_of : List (List (List ℕ × CellType)) → State
opening_of schemas = record { schemas = schemas; frames = replicate (length schemas) empty_frame; views = [] }

-- the tables of the frames
abbrev pub tables_of_frames : List FrameState → List (List (List Cell))
tables_of_frames frames = map rows_of frames

-- the value of a plan over frames
abbrev pub value_over : List FrameState → CheckedParts → List (List Cell)
value_over frames p = (table_of p.plan p.frames (tables_of_frames frames)).rows

-- a plan that was checked over these schemas
pub record IsPlanOver (schemas : List (List (List ℕ × CellType))) (p : CheckedParts) : Type 0 where
  pub frames : p.frames ≡ schemas
  pub checks : plan_check p.plan p.frames ≡ Ok p.schema

-- a legal state: at most 8 frames, of base columns, each of them sound; at most 32 views, with distinct names and with
-- plans over these frames; and the views' tables are the values of their plans
pub record IsLegal (s : State) : Type 0 where
  pub few_frames : length s.schemas ≤ limits.most_frames
  pub base : IsTrue (list_all is_base s.schemas)
  pub frames : AllZip IsFrame s.schemas s.frames
  pub few_views : length s.views ≤ limits.most_views
  pub names : IsDistinct bytes_eq (map (λ v. v.name) s.views)
  pub plans : AllByRecursion (λ v. IsPlanOver s.schemas v.plan) s.views
  pub tables : map (λ v. v.table) s.views ≡ map (λ v. value_over s.frames v.plan) s.views
