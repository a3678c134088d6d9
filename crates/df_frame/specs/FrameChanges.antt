-- Changes of one frame's rows: what each makes of the frame, and when the frame takes it.
use Rattle.std.specs.Prelude.{◌≡◌, ℕ, ⊤, List, [], None, false, length, map}
use Rattle.df_value.specs.Chunks.{ChunkParts}
use Rattle.df_frame.specs.Runs.{IsRun}
use Rattle.df_delta.specs.Deltas.{Changes}
use Rattle.df_frame.specs.declared.frame_change.FrameChange.{FrameChange}
use Rattle.df_frame.specs.declared.frame_change.FrameChange.TheVariants.{Append, Delete, Prepared, Replace}
use Rattle.df_frame.specs.declared.state.FrameState.{FrameState}
use Rattle.df_frame.specs.declared.prepared.FrameDelta.{FrameDelta}
use Rattle.df_frame.specs.declared.prepared.FrameDelta.TheVariants.{Lent, Made}
use Rattle.df_frame.specs.Frames.{with_chunk, with_replaced_rows, without_rows}
use Rattle.df_frame.specs.Refusals.{doubled_number_after, first_not_live, first_taken, would_be_full}
use Rattle.df_frame.specs.Prepared.{delta_of_chunk}

-- the frame after the change
abbrev pub frame_after : FrameState → FrameChange → FrameState
frame_after x (Append chunk) = with_chunk chunk.now x
frame_after x (Prepared run) = with_chunk run.now x
frame_after x (Delete numbers) = without_rows numbers.now x
frame_after x (Replace rows) = with_replaced_rows rows.now x

-- these numbers are of the frame's rows, and none of them stands twice
abbrev pub TakesNumbers : FrameState → List ℕ → Type 0
TakesNumbers x ns = (doubled_number_after [] ns ≡ None) × (first_not_live x ns ≡ None)

-- the frame has accepted no number of the chunk, and has room for it
abbrev pub TakesChunk : FrameState → ChunkParts → Type 0
TakesChunk x c = (first_taken x c ≡ None) × (would_be_full x c ≡ false)

-- nothing in the frame refuses the change
abbrev pub FrameTakes : FrameState → FrameChange → Type 0
FrameTakes x (Append chunk) = TakesChunk x chunk.now
FrameTakes x (Prepared run) = TakesChunk x run.now
FrameTakes x (Delete numbers) = TakesNumbers x numbers.now
FrameTakes x (Replace rows) = TakesNumbers x (map (λ r. r.0) rows.now)

-- how many rows it adds, and how many it takes out
abbrev pub accepted_rows : FrameChange → ℕ
accepted_rows (Append chunk) = length chunk.now.rows
accepted_rows (Prepared run) = length run.now.rows
accepted_rows (Delete numbers) = 0
accepted_rows (Replace rows) = 0

abbrev pub deleted_rows : FrameChange → ℕ
deleted_rows (Append chunk) = 0
deleted_rows (Prepared run) = 0
deleted_rows (Delete numbers) = length numbers.now
deleted_rows (Replace rows) = 0

-- a change that code can make: the rows that it adds are a run
abbrev pub IsSound : FrameChange → Type 0
IsSound (Append chunk) = IsRun chunk.now.schema chunk.now.first chunk.now.rows
IsSound (Prepared run) = IsRun run.now.schema run.now.first run.now.rows
IsSound (Delete numbers) = ⊤
IsSound (Replace rows) = ⊤

-- the delta of a change: made for it, or that of a prepared run
abbrev pub delta_in : FrameDelta → Changes
delta_in (Made d) = d
delta_in (Lent run) = delta_of_chunk run.now
