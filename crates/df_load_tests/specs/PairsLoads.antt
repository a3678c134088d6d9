-- Loads of sources that make these chunks and number them so.
use Rattle.std.specs.Prelude.{◌≤◌, ℕ, List, length}
use Rattle.df_value.specs.declared.chunk.Piece.{Piece}
use Rattle.df_jobs.specs.Jobs.{chunks_of, jobs_of, most_jobs}

-- there are no more jobs than a load takes
pub record HaveFewJobs {S : Type 0} (made : S → List Piece) (start : S → ℕ → ℕ) (sources : List S) : Type 0 where
  pub few : length (jobs_of (chunks_of made start sources)) ≤ most_jobs
