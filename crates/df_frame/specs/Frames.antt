-- Frames: rows under their numbers, with the numbers that were accepted and deleted; what a chunk, a deletion and rows
-- in the place of others make of a frame. That a number is accepted once at most, also after its deletion, is this
-- project's own rule.
use Rattle.std.specs.Prelude.{◌≡◌, ◌≤◌, ℕ, Bool, false, IsTrue, not, ◌&&◌, ◌||◌, ◌==◌, List, [], length, map, filter, find, slice_get, Option, option_map, unwrap_or}
use Rattle.std.specs.List.{list_any, range_with_len, enumerate_from}
use Rattle.df_value.specs.declared.cell.Cell.{Cell}
use Rattle.df_value.specs.declared.cell.CellType.{CellType}
use Rattle.df_value.specs.Chunks.{ChunkParts}
use Rattle.df_value.specs.Rows.{row_eq, rows_fit}
use Rattle.df_frame.specs.declared.state.FrameState.{FrameState}
use Rattle.df_value.specs.Limits as limits
use Rattle.df_frame.specs.Numbers.{are_below, has_number, is_rising, put_from}

-- a frame that has accepted nothing
abbrev pub empty_frame : FrameState
empty_frame = record { accepted = []; deleted = []; rows = [] }

-- the table of a frame: its rows by rising number
abbrev pub rows_of : FrameState → List (List Cell)
rows_of f = map (λ r. r.1) f.rows

-- the numbers of its rows
abbrev pub numbers_of : FrameState → List ℕ
numbers_of f = map (λ r. r.0) f.rows

-- whether it has a row of this number
abbrev pub has_row : FrameState → ℕ → Bool
has_row f n = list_any (λ r. r.0 == n) f.rows

-- whether a row has this number and these cells
abbrev pub is_numbered_row : ℕ → List Cell → ℕ × List Cell → Bool
is_numbered_row n row r = (r.0 == n) && row_eq r.1 row

-- whether the row at this place has this number and these cells
abbrev pub is_row_at : FrameState → ℕ → ℕ → List Cell → Bool
is_row_at f place n row = unwrap_or (option_map (is_numbered_row n row) (slice_get f.rows place)) false

-- the numbers of a chunk's rows
abbrev pub chunk_numbers : ChunkParts → List ℕ
chunk_numbers c = range_with_len c.first (length c.rows)

-- the frame that accepted a chunk: its numbers are accepted, and its rows stand under them
abbrev pub with_chunk : ChunkParts → FrameState → FrameState
with_chunk c f = record {
  accepted = put_from (λ n. n) c.first (chunk_numbers c) f.accepted;
  deleted = f.deleted;
  rows = put_from (λ r. r.0) c.first (enumerate_from c.first c.rows) f.rows;
}

-- the frame without the rows of these numbers: of the accepted numbers, those that were deleted before and these are
-- deleted
abbrev pub without_rows : List ℕ → FrameState → FrameState
without_rows ns f = record {
  accepted = f.accepted;
  deleted = filter (λ n. has_number f.deleted n || has_number ns n) f.accepted;
  rows = filter (λ r. not (has_number ns r.0)) f.rows;
}

-- the first of numbered rows that has this number
abbrev pub row_of_number : List (ℕ × List Cell) → ℕ → Option (ℕ × List Cell)
row_of_number rows n = find (λ r. r.0 == n) rows

-- the row that stands in the place of a row where new rows come: that of its number, and else the row itself
abbrev pub replaced_row : List (ℕ × List Cell) → ℕ × List Cell → ℕ × List Cell
replaced_row new_rows row = unwrap_or (row_of_number new_rows row.0) row

-- the frame in which the new rows stand at their numbers
abbrev pub with_replaced_rows : List (ℕ × List Cell) → FrameState → FrameState
with_replaced_rows new_rows f =
    record { accepted = f.accepted; deleted = f.deleted; rows = map (replaced_row new_rows) f.rows }

-- a frame whose numbers are sound: they rise, below 2^32; at most 1,048,576 were accepted; all that were deleted had
-- been accepted; and the rows have the accepted numbers that were not deleted
pub record IsNumbered (f : FrameState) : Type 0 where
  pub rising : IsTrue (is_rising f.accepted)
  pub below : IsTrue (are_below limits.row_numbers f.accepted)
  pub few : length f.accepted ≤ limits.most_rows_of_frame
  pub deleted : filter (λ n. has_number f.deleted n) f.accepted ≡ f.deleted
  pub left : numbers_of f ≡ filter (λ n. not (has_number f.deleted n)) f.accepted

-- a sound frame: its numbers are sound, and its rows fit the schema
pub record IsFrame (schema : List (List ℕ × CellType)) (f : FrameState) : Type 0 where
  pub numbered : IsNumbered f
  pub fitting : IsTrue (rows_fit schema (rows_of f))
