-- Chunks whose rows stand in a table, from an index on.
use Rattle.std.specs.Prelude.{◌≡◌, ◌+◌, ◌<◌, ◌≤◌, ℕ, List, drop, slice_index_or, take}
use Rattle.std.specs.FinMap as finite
use Rattle.df_value.specs.Chunks.{ChunkParts, IsChunk}
use Rattle.df_value.specs.Limits.{most_rows_of_frame}
use Rattle.df_value.specs.declared.cell.Cell.{Cell}
use Rattle.df_column.specs.RowRuns.{StandFrom}
use Rattle.df_column.specs.Tables.{TableParts}
use Rattle.df_column.specs.declared.tag.Tag.{Tag}
use Rattle.df_frame.specs.FrameTables.{row_tag}

-- so many rows of a table from an index on
abbrev pub rows_from : TableParts → ℕ → ℕ → List (List Cell)
rows_from t low len = take len (drop low (finite.values t.rows))

-- the chunk of these rows, the first of which has this number
abbrev pub chunk_in : TableParts → ℕ → ℕ → ℕ → ChunkParts
chunk_in t first low len = record { schema = t.schema; first = first; rows = rows_from t low len }

-- the rows are there, each at the tag of its number, and they are a chunk; the table has no more rows than a frame
pub record IsStored (t : TableParts) (first low len : ℕ) : Type 0 where
  pub few : finite.len t.rows ≤ most_rows_of_frame
  pub within : low + len ≤ finite.len t.rows
  pub sound : IsChunk t.schema first (rows_from t low len)
  pub stand : StandFrom (finite.entries t.rows) low (first + 1) (rows_from t low len)
  pub tags : (k : ℕ) (d : Tag × List Cell) → k < len → (slice_index_or (finite.entries t.rows) (low + k) d).0 ≡ row_tag (first + k)
