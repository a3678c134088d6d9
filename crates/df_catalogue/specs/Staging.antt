-- What is staged in a catalogue: the state and the work that its commit makes, and what is true of it so that the commit
-- needs no memory and is not refused. Changes in two steps are this project's own.
use Rattle.std.specs.Prelude.{◌≡◌, ℕ, ◌+◌, ◌<◌, List, [], ◌∷◌, ◌++◌, length, map, remove, slice_set, Option, Some, None, option_and_then, IfSome}
use Rattle.df_expr.specs.declared.meter.Meter.{Meter}
use Rattle.df_delta.specs.Deltas.{Changes}
use Rattle.df_live.specs.Views.{IsLive}
use Rattle.df_catalogue.specs.declared.staging.StagedFrame.{StagedFrame}
use Rattle.df_catalogue.specs.declared.staging.Staging.{Staging}
use Rattle.df_catalogue.specs.declared.staging.Staging.TheVariants.{Rows, NewView, OldView}
use Rattle.df_state.specs.declared.state.RowCounts.{RowCounts}
use Rattle.df_state.specs.declared.state.StagedParts.{StagedParts}
use Rattle.df_state.specs.declared.state.State.{State}
use Rattle.df_catalogue.specs.declared.views.View.{View}
use Rattle.df_state.specs.Changes.{refreshed_views}
use Rattle.df_state.specs.Desks.{accepted_in, deleted_in}
use Rattle.df_frame.specs.FrameParts.{FrameParts, schemas_of, states_of}
use Rattle.df_catalogue.specs.KeptChanges.{none_kept}
use Rattle.df_catalogue.specs.LiveViews.{changes_staged, tagged_frames, view_state, AreStaged, HaveRoom}
use Rattle.df_catalogue.specs.Parts.{state_of, IsCatalogue}
use Rattle.df_state.specs.States.{IsLegal}

-- the frames with the changed one in its place
abbrev pub frames_with : List FrameParts → StagedFrame → List FrameParts
frames_with frames r = slice_set frames r.frame r.changed

-- the state with the changed frame, over which every view's table is taken anew
abbrev pub state_with_rows : List FrameParts → List View → StagedFrame → State
state_with_rows frames views r = record {
  schemas = schemas_of (frames_with frames r);
  frames = states_of (frames_with frames r);
  views = refreshed_views (states_of (frames_with frames r)) (map view_state views);
}

-- the state that a commit makes
abbrev pub staged_state : List FrameParts → List View → Staging → State
staged_state frames views (Rows r) = state_with_rows frames views r
staged_state frames views (NewView v) = state_of (schemas_of frames) (states_of frames) (views ++ v ∷ [])
staged_state frames views (OldView at) = state_of (schemas_of frames) (states_of frames) (remove views at)

-- the work that it makes of this work
abbrev pub staged_work : Meter → Staging → Meter
staged_work work (Rows r) = r.work
staged_work work (NewView v) = work
staged_work work (OldView at) = work

-- what the desk counts at it
abbrev pub staged_counts : Staging → Option RowCounts
staged_counts (Rows r) = Some (record { frame = r.frame; accepted = r.accepted; deleted = r.deleted })
staged_counts (NewView v) = None
staged_counts (OldView at) = None

-- what is kept at it of each view's change
abbrev pub staged_changes : List View → Staging → List (Option Changes)
staged_changes views (Rows r) = changes_staged r.views.items
staged_changes views (NewView v) = none_kept (map view_state (views ++ v ∷ []))
staged_changes views (OldView at) = none_kept (map view_state (remove views at))

abbrev pub staged_parts : List FrameParts → List View → Meter → Staging → StagedParts
staged_parts frames views work s =
    record { state = staged_state frames views s; work = staged_work work s; rows = staged_counts s; changes = staged_changes views s }

-- the rows that are staged, if it is rows
abbrev pub rows_in : Staging → Option StagedFrame
rows_in (Rows r) = Some r
rows_in (NewView v) = None
rows_in (OldView at) = None

abbrev pub rows_staged : Option Staging → Option StagedFrame
rows_staged staged = option_and_then rows_in staged

-- a changed frame keeps its schema and leads to a legal state; what was staged for each view leads it there, and can be
-- put in place; and the books of that state are these with the rows
pub record IsStagedFrame (frames : List FrameParts) (views : List View) (r : StagedFrame) : Type 0 where
  pub within : r.frame < length frames
  pub schemas : schemas_of (frames_with frames r) ≡ schemas_of frames
  pub legal : IsLegal (state_with_rows frames views r)
  pub count : length r.views.items ≡ length views
  pub leads : AreStaged views r.views.items (tagged_frames (states_of (frames_with frames r)))
  pub room : HaveRoom views r.views.items
  pub accepted : accepted_in (state_with_rows frames views r) ≡ accepted_in (state_of (schemas_of frames) (states_of frames) views) + r.accepted
  pub deleted : deleted_in (state_with_rows frames views r) ≡ deleted_in (state_of (schemas_of frames) (states_of frames) views) + r.deleted

-- a view that comes stands over the frames, and there is room for it
pub record IsNewView (frames : List FrameParts) (views : List View) (capacity : ℕ) (v : View) : Type 0 where
  pub legal : IsLegal (staged_state frames views (NewView v))
  pub live : IsLive v.live (tagged_frames (states_of frames))
  pub room : length views < capacity

-- a view that goes is there
pub record IsOldView (frames : List FrameParts) (views : List View) (at : ℕ) : Type 0 where
  pub legal : IsLegal (staged_state frames views (OldView at))
  pub within : at < length views

-- what is staged can be committed
abbrev pub IsStaging : List FrameParts → List View → ℕ → Staging → Type 0
IsStaging frames views capacity (Rows r) = IsStagedFrame frames views r
IsStaging frames views capacity (NewView v) = IsNewView frames views capacity v
IsStaging frames views capacity (OldView at) = IsOldView frames views at

-- a catalogue's parts are sound, and so is what is staged over them, if anything is
pub record IsSoundCatalogue
    (frames : List FrameParts) (views : List View) (capacity : ℕ) (staged : Option Staging) (accepted deleted : ℕ)
    (of_accepted of_deleted : ℕ × ℕ) : Type 0 where
  pub parts : IsCatalogue (state_of (schemas_of frames) (states_of frames) views) views accepted deleted of_accepted of_deleted
  pub staging : IfSome staged (IsStaging frames views capacity)
