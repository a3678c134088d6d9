-- A live view over frames.
use Rattle.std.specs.Prelude.{◌≡◌, ℕ, ◌<◌, ◌^◌, List, length}
use Rattle.std.specs.FinMap as finite
use Rattle.df_expr.specs.declared.meter.Meter.{Meter}
use Rattle.df_column.specs.Tables.{TaggedRows}
use Rattle.df_delta.specs.Deltas.{Changes, RowsFit}
use Rattle.df_delta.specs.Differences.{Fits, IsLean}
use Rattle.df_plan.specs.CheckedParts.{CheckedParts}
use Rattle.df_plan.specs.Meaning.{table_of}
use Rattle.df_value.specs.declared.cell.CellType.{CellType}
use Rattle.df_live.specs.Frames.{AreFrames, changed, frame_at, rows_of_frames}
use Rattle.df_live.specs.Meaning.{meaning}
use Rattle.df_live.specs.Staged.{LeadsTo as TreeLeadsTo, HasRoomFor as TreeHasRoomFor}
use Rattle.df_live.specs.Trees.{IsOver, Takes, allowed, output}
use Rattle.df_live.specs.declared.tree.LiveTree.{LiveTree}
use Rattle.df_live.specs.declared.view.LiveView.{LiveView}
use Rattle.df_live.specs.declared.view.StagedView.{StagedView}

-- the rows that a plan means, with their tags
abbrev pub value : CheckedParts → List TaggedRows → TaggedRows
value plan frames = (meaning plan.frames plan.plan).gives frames

-- what the nodes of a plan may count when the frames become others
abbrev pub work : CheckedParts → List TaggedRows → List TaggedRows → Meter
work plan frames after = (meaning plan.frames plan.plan).work frames after

-- no prepare of a view counts more: a plan has at most 2 ^ 12 nodes, and each counts at most 2 ^ 82
abbrev pub most_work : Meter
most_work = record { evals = 2 ^ 94; finishes = 2 ^ 94; probes = 2 ^ 94; windows = 2 ^ 94 }

-- the tree is one of this plan, and over frames of the plan's schemas its rows are those of the plan's table and fit
pub record IsOf (tree : LiveTree) (plan : CheckedParts) : Type 0 where
  pub gives : (frames : List TaggedRows) → output tree frames ≡ value plan frames
  pub work : (frames after : List TaggedRows) → allowed tree frames after ≡ work plan frames after
  pub takes : (frames : List TaggedRows) → AreFrames plan.frames frames → Takes tree frames
  pub rows : (frames : List TaggedRows) → AreFrames plan.frames frames → finite.values (value plan frames) ≡ (table_of plan.plan plan.frames (rows_of_frames frames)).rows
  pub fits : (frames : List TaggedRows) → AreFrames plan.frames frames → RowsFit plan.schema (value plan frames)

-- the view stands over these frames
pub record IsLive (v : LiveView) (frames : List TaggedRows) : Type 0 where
  pub of_plan : IsOf v.tree v.plan
  pub over : IsOver v.tree frames
  pub table : v.table.rows ≡ value v.plan frames
  pub schema : v.table.schema ≡ v.plan.schema
  pub rows : finite.values v.table.rows ≡ (table_of v.plan.plan v.plan.frames (rows_of_frames frames)).rows

-- a commit of the staged view leads to these frames
pub record LeadsTo (v : LiveView) (s : StagedView) (frames : List TaggedRows) : Type 0 where
  pub of_plan : IsOf v.tree v.plan
  pub over : TreeLeadsTo v.tree s.tree frames
  pub table : s.table.rows ≡ value v.plan frames
  pub schema : s.table.schema ≡ v.plan.schema
  pub rows : finite.values s.table.rows ≡ (table_of v.plan.plan v.plan.frames (rows_of_frames frames)).rows

-- a commit of the staged view needs no memory
abbrev pub HasRoomFor : LiveView → StagedView → Type 0
HasRoomFor v s = TreeHasRoomFor v.tree s.tree

-- a lean delta that fits the frame at f, and leaves frames of these schemas
pub record IsChangeOf (schemas : List (List (List ℕ × CellType))) (frames : List TaggedRows) (f : ℕ) (d : Changes) : Type 0 where
  pub within : f < length frames
  pub lean : IsLean d
  pub fits : Fits (frame_at frames f) d
  pub before : AreFrames schemas frames
  pub after : AreFrames schemas (changed frames f d)
