-- The views of a catalogue, each over the same frames, and what was staged for each.
use Rattle.std.specs.Prelude.{ℕ, ◌<◌, List, length, map, Option, slice_index_or}
use Rattle.std.specs.FinMap as finite
use Rattle.df_value.specs.declared.cell.Cell.{Cell}
use Rattle.df_column.specs.Tables.{TaggedRows}
use Rattle.df_delta.specs.Deltas.{Changes}
use Rattle.df_plan.specs.CheckedParts.{CheckedParts}
use Rattle.df_plan.specs.Meaning.{table_of}
use Rattle.df_live.specs.Frames.{rows_of_frames}
use Rattle.df_live.specs.Views.{HasRoomFor, IsChangeOf, IsLive, LeadsTo}
use Rattle.df_live.specs.declared.view.StagedView.{StagedView}
use Rattle.df_frame.specs.declared.state.FrameState.{FrameState}
use Rattle.df_state.specs.declared.state.ViewState.{ViewState}
use Rattle.df_catalogue.specs.declared.views.View.{View}
use Rattle.df_frame.specs.FrameTables.{tagged_rows_of}

-- what callers see of a view
abbrev pub view_state : View → ViewState
view_state v = record { name = v.name; plan = v.live.plan; table = finite.values v.live.table.rows }

-- the names of views with their plans
abbrev pub headings : List View → List (List ℕ × CheckedParts)
headings views = map (λ v. (v.name, v.live.plan)) views

-- the plans of views
abbrev pub plans : List View → List CheckedParts
plans views = map (λ v. v.live.plan) views

-- what is kept of the last change of each view
abbrev pub changes_kept : List View → List (Option Changes)
changes_kept views = map (λ v. v.live.changes) views

-- what is to be kept of the change that was staged for each
abbrev pub changes_staged : List StagedView → List (Option Changes)
changes_staged staged = map (λ s. s.changes) staged

-- the frames' rows by their tags
abbrev pub tagged_frames : List FrameState → List TaggedRows
tagged_frames frames = map tagged_rows_of frames

-- a view's name with the rows of its plan over these frames
abbrev pub planned_rows : List TaggedRows → View → List ℕ × List (List Cell)
planned_rows frames v = (v.name, (table_of v.live.plan.plan v.live.plan.frames (rows_of_frames frames)).rows)

-- each view stands over these frames
pub record AreLive (views : List View) (frames : List TaggedRows) : Type 0 where
  pub at : (k : ℕ) (d : View) → k < length views → IsLive (slice_index_or views k d).live frames

-- each view's frames change so
pub record AreChangesOf (views : List View) (frames : List TaggedRows) (f : ℕ) (d : Changes) : Type 0 where
  pub at : (k : ℕ) (e : View) → k < length views → IsChangeOf (slice_index_or views k e).live.plan.frames frames f d

-- a commit of what was staged leads each view to these frames
pub record AreStaged (views : List View) (staged : List StagedView) (frames : List TaggedRows) : Type 0 where
  pub at : (k : ℕ) (d : View) (e : StagedView) → k < length staged →
      LeadsTo (slice_index_or views k d).live (slice_index_or staged k e) frames

-- what was staged is such that each view may put it in place
pub record HaveRoom (views : List View) (staged : List StagedView) : Type 0 where
  pub at : (k : ℕ) (d : View) (e : StagedView) → k < length staged →
      HasRoomFor (slice_index_or views k d).live (slice_index_or staged k e)
