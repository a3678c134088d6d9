-- The close: desks joined to one for each frame, their shares compared with the frames' books, and the totals by frame.
use Rattle.std.specs.Prelude.{◌≡◌, ◌≢◌, ℕ, ◌+◌, ◌<◌, ◌≤◌, Bool, ◌&&◌, ◌==◌, List, [], ◌∷◌, length, map, slice_index_or, Option, Some, None, if◌then◌else◌}
use Rattle.df_frame.specs.declared.state.FrameState.{FrameState}
use Rattle.df_state.specs.declared.state.State.{State}
use Rattle.df_state.specs.Desks.{AgreeWithBooks, DeskParts, HaveSameSums, accepted_at, deleted_at}
use Rattle.df_state.specs.States.{IsLegal}
use Rattle.df_value.specs.declared.cell.CellType.{CellType}
use Rattle.df_versions.specs.Histories.{IsHistoryOver, IsLastState, last_state}
use Rattle.df_hall.specs.declared.totals.Totals.{Totals}

-- whether the shares of the desks are the books of a frame
abbrev pub is_settled : List DeskParts → ℕ → FrameState → Bool
is_settled desks frame f = (accepted_at frame desks == length f.accepted) && (deleted_at frame desks == length f.deleted)

-- the least of these frames, the first of which has this index, of which the shares of the desks are not the books
abbrev pub missing_from : List DeskParts → ℕ → List FrameState → Option ℕ
missing_from desks frame [] = None
missing_from desks frame (f ∷ fs) = if is_settled desks frame f then missing_from desks (frame + 1) fs else Some frame

-- the least frame of a state of which the shares of the desks are not the books
abbrev pub missing_frame : List DeskParts → State → Option ℕ
missing_frame desks s = missing_from desks 0 s.frames

-- the totals of a state: by frame, how many rows were accepted, how many of them were deleted, and how many there are
abbrev pub totals_of : State → Totals
totals_of s = record {
  accepted = map (λ f. length f.accepted) s.frames;
  deleted = map (λ f. length f.deleted) s.frames;
  live = map (λ f. length f.rows) s.frames;
}

-- no desk before this place is of the frame of the desk there
abbrev pub IsFirst : List DeskParts → ℕ → Type 0
IsFirst desks a = (b : ℕ) → b < a → (d e : DeskParts) → (slice_index_or desks b d).frame ≢ (slice_index_or desks a e).frame

-- from a place on each desk is the first of its frame
abbrev pub AreFirst : List DeskParts → ℕ → Type 0
AreFirst desks at = (a : ℕ) → at ≤ a → a < length desks → IsFirst desks a

-- desks that were joined to one for each frame of which there is one: no two are of one frame, and no share is lost
pub record AreJoined (before after : List DeskParts) : Type 0 where
  pub sums : HaveSameSums before after
  pub distinct : AreFirst after 0

-- the desks at two places are of one frame
abbrev pub SameFrame : List DeskParts → ℕ → ℕ → Type 0
SameFrame desks a b = (d e : DeskParts) → (slice_index_or desks a d).frame ≡ (slice_index_or desks b e).frame

-- a lawful history over frames of these schemas ends with a legal state of which this is the least frame where the shares of
-- the desks are not the books; over all frames they count no more than its books, and exactly these where they have every part
pub record IsMissingAfter (schemas : List (List (List ℕ × CellType))) (desks : List DeskParts) (history : List State) (frame : ℕ) : Type 0 where
  pub over : IsHistoryOver schemas history
  pub state : State
  pub last : last_state history ≡ Some state
  pub legal : IsLegal state
  pub missing : missing_frame desks state ≡ Some frame
  pub books : AgreeWithBooks desks state

-- a legal state that a hall over frames of these schemas may come to, of which the shares of the desks are the books
pub record IsSettledState (schemas : List (List (List ℕ × CellType))) (desks : List DeskParts) (s : State) : Type 0 where
  pub last : IsLastState schemas s
  pub legal : IsLegal s
  pub settled : missing_frame desks s ≡ None

-- or of which this is the least frame where they are not, although the desks agree with its books over all frames
pub record IsUnsettledState (schemas : List (List (List ℕ × CellType))) (desks : List DeskParts) (s : State) (frame : ℕ) : Type 0 where
  pub last : IsLastState schemas s
  pub legal : IsLegal s
  pub missing : missing_frame desks s ≡ Some frame
  pub books : AgreeWithBooks desks s
