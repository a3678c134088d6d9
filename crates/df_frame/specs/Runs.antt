-- Runs: rows of a frame, numbered from a first number on, as many as a frame may have. The rows of chunks that follow one another
-- are a run.
use Rattle.std.specs.Prelude.{◌≡◌, ◌+◌, ◌++◌, ◌≤◌, ℕ, List, IsTrue, length}
use Rattle.df_value.specs.declared.cell.Cell.{Cell}
use Rattle.df_value.specs.declared.cell.CellType.{CellType}
use Rattle.df_value.specs.Chunks.{ChunkParts}
use Rattle.df_value.specs.Limits.{most_rows_of_frame, row_numbers}
use Rattle.df_value.specs.Rows.{rows_fit}

-- what a run is: no more rows than a frame has, whose numbers lie below 2^32, and all of which fit the schema
pub record IsRun (schema : List (List ℕ × CellType)) (first : ℕ) (rows : List (List Cell)) : Type 0 where
  pub few : length rows ≤ most_rows_of_frame
  pub numbered : first + length rows ≤ row_numbers
  pub fitting : IsTrue (rows_fit schema rows)

-- a run goes on behind another: both are of one schema, it begins with the number behind the last one there, and together
-- they have no more rows than a frame
pub record GoesOn (run next : ChunkParts) : Type 0 where
  pub of_schema : next.schema ≡ run.schema
  pub of_first : next.first ≡ run.first + length run.rows
  pub few : length run.rows + length next.rows ≤ most_rows_of_frame

-- the rows of a run and, behind them, those of another
abbrev pub run_of_both : ChunkParts → ChunkParts → ChunkParts
run_of_both run next = record { schema = run.schema; first = run.first; rows = run.rows ++ next.rows }
