-- What callers see of a frame: the schema of its rows, and its state; and how the accepted numbers and the rows are the
-- state.
use Rattle.std.specs.Prelude.{ℕ, not, List, map, filter}
use Rattle.df_value.specs.declared.cell.Cell.{Cell}
use Rattle.df_value.specs.declared.cell.CellType.{CellType}
use Rattle.df_frame.specs.declared.state.FrameState.{FrameState}
use Rattle.df_frame.specs.Numbers.{has_number}
use Rattle.df_frame.specs.Frames.{empty_frame}

pub record FrameParts : Type 0 where
  pub schema : List (List ℕ × CellType)
  pub state : FrameState

-- the frame of a schema that has accepted nothing
abbrev pub empty_parts : List (List ℕ × CellType) → FrameParts
empty_parts schema = record { schema = schema; state = empty_frame }

-- the schemas of frames, and their states
abbrev pub schemas_of : List FrameParts → List (List (List ℕ × CellType))
schemas_of frames = map (λ f. f.schema) frames

abbrev pub states_of : List FrameParts → List FrameState
states_of frames = map (λ f. f.state) frames

-- the deleted numbers are the accepted ones of which there is no row
abbrev pub deleted_numbers : List ℕ → List (ℕ × List Cell) → List ℕ
deleted_numbers accepted rows = filter (λ n. not (has_number (map (λ r. r.0) rows) n)) accepted

abbrev pub frame_state : List ℕ → List (ℕ × List Cell) → FrameState
frame_state accepted rows = record { accepted = accepted; deleted = deleted_numbers accepted rows; rows = rows }
