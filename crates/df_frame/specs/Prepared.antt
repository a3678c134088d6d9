-- Runs whose rows stand in blocks already.
use Rattle.std.specs.Prelude.{◌≡◌, ℕ, map}
use Rattle.std.specs.FinMap as finite
use Rattle.std.specs.List.{enumerate_from}
use Rattle.df_value.specs.Chunks.{ChunkParts}
use Rattle.df_frame.specs.Runs.{IsRun}
use Rattle.df_column.specs.Changes.{applied}
use Rattle.df_column.specs.Tables.{TableParts}
use Rattle.df_delta.specs.Deltas.{Changes}
use Rattle.df_frame.specs.FrameTables.{coming_row}

-- the delta by which the rows of a chunk or a run come
abbrev pub delta_of_chunk : ChunkParts → Changes
delta_of_chunk c = finite.from_sorted (map coming_row (enumerate_from c.first c.rows))

-- the run of the rows of a table, the first of which has this number
abbrev pub run_in : TableParts → ℕ → ChunkParts
run_in t first = record { schema = t.schema; first = first; rows = finite.values t.rows }

-- it is a run, the delta brings its rows, and a table has the rows that the delta brings to one without rows
pub record IsPrepared (c : ChunkParts) (delta : Changes) (t : TableParts) : Type 0 where
  pub sound : IsRun c.schema c.first c.rows
  pub delta_is : delta ≡ delta_of_chunk c
  pub rows_are : t.rows ≡ applied finite.empty delta
