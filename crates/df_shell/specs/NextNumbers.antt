-- The numbers at which further rows of a catalogue's frames begin.
use Rattle.std.specs.Prelude.{ℕ, List, map, slice_index_or}
use Rattle.df_frame.specs.declared.state.FrameState.{FrameState}
use Rattle.df_session.specs.Numbers.{number_behind}

abbrev pub next_number : FrameState → ℕ
next_number f = number_behind f.accepted

-- those of frames
abbrev pub next_numbers : List FrameState → List ℕ
next_numbers frames = map next_number frames

-- that of the frame at an index, 0 where there is none
abbrev pub next_number_at : List FrameState → ℕ → ℕ
next_number_at frames at = slice_index_or (next_numbers frames) at 0
