-- What a load adds to the rows that stood when its workers began: whole chunks. The views stay.
use Rattle.std.specs.Prelude.{◌≡◌, ◌++◌, ℕ, All, List, Some, length, slice_get}
use Rattle.std.specs.List.Sorted.{IsPermutation}
use Rattle.df_value.specs.declared.cell.CellType.{CellType}
use Rattle.df_value.specs.Chunks.{ChunkParts}
use Rattle.df_value.specs.declared.chunk.Piece.{Piece}
use Rattle.df_frame.specs.declared.state.FrameState.{FrameState}
use Rattle.df_state.specs.declared.state.State.{State}
use Rattle.df_state.specs.Desks.{AgreeWithBooks, DeskParts}
use Rattle.df_jobs.specs.declared.jobs.Outcome.{Outcome}
use Rattle.df_jobs.specs.Expected.{rows_at}
use Rattle.df_jobs.specs.Jobs.{AreOutcomes}
use Rattle.df_jobs.specs.Loaded.{chunk_rows}
use Rattle.df_versions.specs.Histories.{IsHistoryOver, IsLastState, last_state}
use Rattle.df_store.specs.Headings.{headings_of}

-- each frame has the rows that it had, and all rows of these outcomes that are of it; as the numbers of a frame rise, this says
-- in which order they stand
pub record HaveRowsMore (entered : List Outcome) (before after : List FrameState) : Type 0 where
  pub count : length after ≡ length before
  pub rows : (frame : ℕ) (f g : FrameState) → slice_get before frame ≡ Some f → slice_get after frame ≡ Some g → IsPermutation (f.rows ++ rows_at frame entered) g.rows

-- what came to the frames from one state to another are chunks of these sources, each whole, and the views are the same ones
pub record HasGrown (chunks : List (List (ℕ × Piece))) (before after : State) : Type 0 where
  pub entered : List Outcome
  pub made : AreOutcomes chunks entered
  pub frames : HaveRowsMore entered before.frames after.frames
  pub views : headings_of after ≡ headings_of before

-- a history went on, and the same holds of its last state then and now
pub record HaveGrown (chunks : List (List (ℕ × Piece))) (before after : List State) : Type 0 where
  pub later : List State
  pub goes_on : after ≡ before ++ later
  pub states : (s t : State) → last_state before ≡ Some s → last_state after ≡ Some t → HasGrown chunks s t

-- a load of these chunks that was given these desks reached this state, with which the history of a hall over frames of these schemas
-- ends: its workers began with an earlier state of that history, with whose books the desks agreed, and what came to the frames
-- since are whole chunks
pub record IsReachedByLoad (schemas : List (List (List ℕ × CellType))) (chunks : List (List (ℕ × Piece))) (desks : List DeskParts) (history : List State) (s : State) :
    Type 0 where
  pub over : IsHistoryOver schemas history
  pub ends : last_state history ≡ Some s
  pub before : State
  pub began : IsLastState schemas before
  pub later : List State
  pub goes_on : history ≡ began.history ++ later
  pub agreed : AgreeWithBooks desks before
  pub grown : HasGrown chunks before s

-- a chunk has all rows of some outcomes of this frame, and no others
pub record IsWhole (chunks : List (List (ℕ × Piece))) (frame : ℕ) (c : ChunkParts) : Type 0 where
  pub outcomes : List Outcome
  pub made : AreOutcomes chunks outcomes
  pub of_frame : All (λ o. o.frame ≡ frame) outcomes
  pub rows : chunk_rows c ≡ rows_at frame outcomes
