-- The limits of a store, this project's own choice.
use Rattle.std.specs.Prelude.{ℕ}

-- so many frames
abbrev pub most_frames : ℕ
most_frames = 8

-- so many views
abbrev pub most_views : ℕ
most_views = 32

-- so many columns of a table
abbrev pub most_columns : ℕ
most_columns = 32

-- so many rows that a frame accepts, and so many records of a file
abbrev pub most_rows_of_frame : ℕ
most_rows_of_frame = 1048576

-- so many rows of a chunk
abbrev pub most_rows_of_chunk : ℕ
most_rows_of_chunk = 65536

-- every row number is below this
abbrev pub row_numbers : ℕ
row_numbers = 4294967296
