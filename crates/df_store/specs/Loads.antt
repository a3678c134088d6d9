-- What a load answers.
use Rattle.std.specs.Prelude.{◌≡◌, ◌≢◌, ◌⊎◌, ◌+◌, ◌==◌, ◌&&◌, ⊤, ℕ, Bool, List, [], ◌∷◌, length, sum_by, Option, Some, None, Result, Ok, Err, if◌then◌else◌, slice_get}
use Rattle.df_value.specs.declared.cell.CellType.{CellType}
use Rattle.df_value.specs.Chunks.{ChunkParts}
use Rattle.df_value.specs.declared.chunk.Piece.{Piece}
use Rattle.df_plan.specs.CheckedParts.{CheckedParts}
use Rattle.df_frame.specs.declared.state.FrameState.{FrameState}
use Rattle.df_state.specs.declared.change.Change.{Change}
use Rattle.df_state.specs.declared.change.Change.TheVariants.{Append, Register}
use Rattle.df_state.specs.declared.state.State.{State}
use Rattle.df_state.specs.Desks.{DeskParts, accepted_at, deleted_at, parts_of}
use Rattle.df_state.specs.States.{IsLegal}
use Rattle.df_versions.specs.Histories.{IsLastState}
use Rattle.df_hall.specs.Closing.{IsUnsettledState}
use Rattle.df_store.specs.declared.fault.LoadCause.{LoadCause}
use Rattle.df_store.specs.declared.fault.LoadCause.TheVariants.{Refused, Memory, Spent, Ahead, MissingDesk, Lost, Unlike, ViewsUnlike}
use Rattle.df_jobs.specs.declared.stop.Stop.{Stop}
use Rattle.df_jobs.specs.declared.jobs.Outcome.{Outcome}
use Rattle.df_store.specs.Faults.{IsCauseAtStart, cause_of_stop}
use Rattle.df_store.specs.Headings.{HasLastViews, headings_of}
use Rattle.df_store.specs.Grown.{IsReachedByLoad}
use Rattle.df_jobs.specs.Jobs.{AreOutcomes, jobs_of}
use Rattle.df_jobs.specs.Loaded.{AreLoaded, IsUnlike}
use Rattle.df_jobs.specs.Lost.{HaveOneEach, IsLost}
use Rattle.df_jobs.specs.Counted.{entered_at, rows_of}

-- a chunk may be appended to any frame
abbrev pub AllowsAppends : (Change → Type 0) → Type 0
AllowsAppends allows = (frame : ℕ) (chunk : ChunkParts) → allows (Append frame chunk)

-- the changes that a load makes are allowed: the registration of a view, and the append of a chunk
pub record AllowsLoad (allows : Change → Type 0) : Type 0 where
  pub registers : (name : List ℕ) (plan : CheckedParts) → allows (Register name plan)
  pub appends : AllowsAppends allows

-- how many rows the good ones of these jobs bring to a frame
abbrev pub rows_of_jobs : ℕ → List (ℕ × (ℕ × Piece)) → ℕ
rows_of_jobs frame jobs = sum_by (λ j. if j.0 == frame then rows_of j.1.1 else 0) jobs

-- of each frame the rows accepted through the desks that were given and those of its good jobs are together the rows that
-- it accepted, and the rows deleted through these desks are those that were deleted from it
pub record AreShares (desks : List DeskParts) (jobs : List (ℕ × (ℕ × Piece))) (s : State) : Type 0 where
  pub accepted : (frame : ℕ) (f : FrameState) → slice_get s.frames frame ≡ Some f → accepted_at frame desks + rows_of_jobs frame jobs ≡ length f.accepted
  pub deleted : (frame : ℕ) (f : FrameState) → slice_get s.frames frame ≡ Some f → deleted_at frame desks ≡ length f.deleted

-- the comparison of a state with the outcomes of these jobs and with the views that were given finds this; of memory
-- nothing can be said
abbrev pub IsDifference : List (ℕ × (ℕ × Piece)) → List Outcome → List (List ℕ × CheckedParts) → State → LoadCause → Type 0
IsDifference jobs outcomes views s (Refused f) = ⊥
IsDifference jobs outcomes views s Memory = ⊤
IsDifference jobs outcomes views s Spent = ⊥
IsDifference jobs outcomes views s Ahead = ⊥
IsDifference jobs outcomes views s (MissingDesk frame) = ⊥
IsDifference jobs outcomes views s (Lost job) = IsLost (length jobs) outcomes job
IsDifference jobs outcomes views s (Unlike frame) = IsUnlike jobs s frame × HaveOneEach (length jobs) outcomes
IsDifference jobs outcomes views s ViewsUnlike = (headings_of s ≢ views) × AreLoaded jobs s × HaveOneEach (length jobs) outcomes

-- a load of which workers were stopped so, or did these outcomes, is refused for this, where the hall's last state is
-- this and the shares of the desks are its books
abbrev pub IsCauseAtEnd : {V : Type 0} → (V → List Outcome) → List (ℕ × (ℕ × Piece)) → List (List ℕ × CheckedParts) → State → Result V Stop → LoadCause → Type 0
IsCauseAtEnd items jobs views s (Ok v) cause = IsDifference jobs (items v) views s cause
IsCauseAtEnd items jobs views s (Err stop) cause = cause ≡ cause_of_stop stop

-- where this is the least frame of which the shares are not the books, a load is refused for it, or since memory or a version
-- was refused before that was seen
abbrev pub IsCauseUnsettled : ℕ → LoadCause → Type 0
IsCauseUnsettled frame (Refused f) = ⊥
IsCauseUnsettled frame Memory = ⊤
IsCauseUnsettled frame Spent = ⊤
IsCauseUnsettled frame Ahead = ⊤
IsCauseUnsettled frame (MissingDesk missing) = missing ≡ frame
IsCauseUnsettled frame (Lost job) = ⊥
IsCauseUnsettled frame (Unlike other) = ⊥
IsCauseUnsettled frame ViewsUnlike = ⊥

-- a load that left this state is refused for this: before its first job, where no chunk has entered; or, where all views that were
-- given are registered, since workers were stopped so, or for a difference between these outcomes, the views and the state
abbrev pub IsCauseLeft : List (ℕ × (ℕ × Piece)) → List (List ℕ × CheckedParts) → List Outcome → State → LoadCause → Type 0
IsCauseLeft jobs views outcomes s cause =
    ((outcomes ≡ []) × IsCauseAtStart s views cause)
    ⊎ (HasLastViews views s × (((stop : Stop) × (cause ≡ cause_of_stop stop)) ⊎ IsDifference jobs outcomes views s cause))

-- a load that left nothing, since this is the least frame of the state where the shares are not the books, is refused for this
abbrev pub IsCauseNotLeft : List (List ℕ × CheckedParts) → List Outcome → State → ℕ → LoadCause → Type 0
IsCauseNotLeft views outcomes s frame cause = ((outcomes ≡ []) × IsCauseAtStart s views cause) ⊎ (HasLastViews views s × IsCauseUnsettled frame cause)

-- whether the rows accepted through these desks and those of these outcomes are together the rows that a frame accepted, and
-- the rows deleted through the desks those that were deleted from it
abbrev pub is_accounted : List DeskParts → List Outcome → ℕ → FrameState → Bool
is_accounted desks outcomes frame f = (accepted_at frame desks + entered_at frame outcomes == length f.accepted) && (deleted_at frame desks == length f.deleted)

-- the least of these frames, the first of which has this index, where they are not
abbrev pub unaccounted_from : List DeskParts → List Outcome → ℕ → List FrameState → Option ℕ
unaccounted_from desks outcomes frame [] = None
unaccounted_from desks outcomes frame (f ∷ fs) = if is_accounted desks outcomes frame f then unaccounted_from desks outcomes (frame + 1) fs else Some frame

-- the least frame of a state where they are not
abbrev pub unaccounted_frame : List DeskParts → List Outcome → State → Option ℕ
unaccounted_frame desks outcomes s = unaccounted_from desks outcomes 0 s.frames

-- a load that was refused for this left this state, with which the history of a hall over frames of these schemas ends: of each frame
-- the books are as large as the shares of the desks that were given and the rows of some outcomes of jobs together
pub record IsLeft (schemas : List (List (List ℕ × CellType))) (chunks : List (List (ℕ × Piece))) (views : List (List ℕ × CheckedParts)) (desks : List DeskParts)
    (cause : LoadCause) (history : List State) (s : State) : Type 0 where
  pub last : IsLastState schemas s
  pub legal : IsLegal s
  pub outcomes : List Outcome
  pub made : AreOutcomes chunks outcomes
  pub accounted : unaccounted_frame desks outcomes s ≡ None
  pub reached : IsReachedByLoad schemas chunks desks history s
  pub why : IsCauseLeft (jobs_of chunks) views outcomes s cause

-- one that was refused for this left nothing: its desks came back with all their parts and with the rows of some outcomes of jobs,
-- and the history of the hall ends with a state with whose books they agree over all frames, but not frame by frame
pub record IsNotLeft (schemas : List (List (List ℕ × CellType))) (chunks : List (List (ℕ × Piece))) (views : List (List ℕ × CheckedParts)) (desks : List DeskParts)
    (cause : LoadCause) (history : List State) : Type 0 where
  pub outcomes : List Outcome
  pub made : AreOutcomes chunks outcomes
  pub gathered : List DeskParts
  pub parts : parts_of gathered ≡ parts_of desks
  pub accepted : (frame : ℕ) → accepted_at frame gathered ≡ accepted_at frame desks + entered_at frame outcomes
  pub deleted : (frame : ℕ) → deleted_at frame gathered ≡ deleted_at frame desks
  pub state : State
  pub frame : ℕ
  pub unsettled : IsUnsettledState schemas gathered state frame
  pub reached : IsReachedByLoad schemas chunks desks history state
  pub why : IsCauseNotLeft views outcomes state frame cause
