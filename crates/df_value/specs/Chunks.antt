-- Chunks: rows of a frame, numbered from a first number on.
use Rattle.std.specs.Prelude.{◌≡◌, ◌+◌, ◌≤◌, ℕ, List, IsTrue, length}
use Rattle.df_value.specs.declared.cell.Cell.{Cell}
use Rattle.df_value.specs.declared.cell.CellType.{CellType}
use Rattle.df_value.specs.Limits.{most_rows_of_chunk, row_numbers}
use Rattle.df_value.specs.Rows.{rows_fit}

-- what callers see of a chunk
pub record ChunkParts : Type 0 where
  pub schema : List (List ℕ × CellType)
  pub first : ℕ
  pub rows : List (List Cell)

-- what a chunk is: few enough rows, whose numbers lie below 2^32, and all of which fit the schema
pub record IsChunk (schema : List (List ℕ × CellType)) (first : ℕ) (rows : List (List Cell)) : Type 0 where
  pub short : length rows ≤ most_rows_of_chunk
  pub numbered : first + length rows ≤ row_numbers
  pub fitting : IsTrue (rows_fit schema rows)

-- the chunk is made of these parts
pub record MakesChunk (schema : List (List ℕ × CellType)) (first : ℕ) (rows : List (List Cell)) (made : ChunkParts) : Type 0 where
  pub of_schema : made.schema ≡ schema
  pub of_first : made.first ≡ first
  pub of_rows : made.rows ≡ rows
