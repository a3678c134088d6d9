-- What the loaders leave: the rows of good chunks at their numbers.
use Rattle.std.specs.Prelude.{◌≡◌, ◌+◌, ◌<◌, ◌==◌, ℕ, List, [], flat_map, length, Some, slice_get, if◌then◌else◌}
use Rattle.std.specs.List.{enumerate_from}
use Rattle.std.specs.List.Sorted.{IsPermutation}
use Rattle.df_value.specs.declared.cell.Cell.{Cell}
use Rattle.df_value.specs.Chunks.{ChunkParts}
use Rattle.df_value.specs.declared.chunk.Piece.{Piece}
use Rattle.df_value.specs.declared.chunk.Piece.TheVariants.{Good, Bad}
use Rattle.df_state.specs.Pictures.{PictureParts, row_in}
use Rattle.df_state.specs.declared.state.State.{State}
use Rattle.df_frame.specs.declared.state.FrameState.{FrameState}

-- the rows of a chunk behind their numbers
abbrev pub chunk_rows : ChunkParts → List (ℕ × List Cell)
chunk_rows c = enumerate_from c.first c.rows

-- the rows that a job gives to a frame: those of its chunk, where the chunk is good and the job is of the frame
abbrev pub made_rows : Piece → List (ℕ × List Cell)
made_rows (Good c) = chunk_rows c
made_rows (Bad b) = []

abbrev pub job_rows : ℕ → ℕ × (ℕ × Piece) → List (ℕ × List Cell)
job_rows frame j = if j.0 == frame then made_rows j.1.1 else []

-- these rows stand in a frame of a picture from a place on
pub record HasRows (p : PictureParts) (frame place : ℕ) (rows : List (ℕ × List Cell)) : Type 0 where
  pub at : (k : ℕ) (r : ℕ × List Cell) → slice_get rows k ≡ Some r → row_in p frame (place + k) ≡ Some r

-- the rows are those that these jobs give to the frame, in some order of the jobs; of a frame, whose numbers rise, this is the
-- order of the first numbers
pub record IsLoaded (frame : ℕ) (jobs : List (ℕ × (ℕ × Piece))) (rows : List (ℕ × List Cell)) : Type 0 where
  pub order : List (ℕ × (ℕ × Piece))
  pub same : IsPermutation jobs order
  pub is : rows ≡ flat_map (job_rows frame) order

-- each frame of a picture is loaded
abbrev pub AreLoadedIn : List (ℕ × (ℕ × Piece)) → PictureParts → Type 0
AreLoadedIn jobs p = (frame : ℕ) (rows : List (ℕ × List Cell)) → slice_get p.frames frame ≡ Some rows → IsLoaded frame jobs rows

-- each frame of a state is
abbrev pub AreLoaded : List (ℕ × (ℕ × Piece)) → State → Type 0
AreLoaded jobs s = (frame : ℕ) (f : FrameState) → slice_get s.frames frame ≡ Some f → IsLoaded frame jobs f.rows

-- the least frame of a picture whose rows are not those that the jobs give to it, in any order of theirs
pub record IsUnlikeIn (jobs : List (ℕ × (ℕ × Piece))) (p : PictureParts) (frame : ℕ) : Type 0 where
  pub within : frame < length p.frames
  pub unlike : (rows : List (ℕ × List Cell)) → slice_get p.frames frame ≡ Some rows → IsLoaded frame jobs rows → ⊥
  pub before : (k : ℕ) (rows : List (ℕ × List Cell)) → k < frame → slice_get p.frames k ≡ Some rows → IsLoaded k jobs rows

-- the least frame of a state whose rows are not
pub record IsUnlike (jobs : List (ℕ × (ℕ × Piece))) (s : State) (frame : ℕ) : Type 0 where
  pub within : frame < length s.frames
  pub unlike : (f : FrameState) → slice_get s.frames frame ≡ Some f → IsLoaded frame jobs f.rows → ⊥
  pub before : (k : ℕ) (f : FrameState) → k < frame → slice_get s.frames k ≡ Some f → IsLoaded k jobs f.rows
