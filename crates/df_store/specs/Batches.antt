-- Batches: outcomes that enter together.
use Rattle.std.specs.Prelude.{⊤, ℕ, List}
use Rattle.df_value.specs.declared.chunk.Piece.{Piece}
use Rattle.df_jobs.specs.declared.jobs.Outcome.{Outcome}
use Rattle.df_jobs.specs.Jobs.{AreOutcomes}
use Rattle.df_jobs.specs.Joined.{IsJoined}
use Rattle.df_store.specs.declared.waiting.Batch.{Batch}
use Rattle.df_store.specs.declared.waiting.Batch.TheVariants.{Apart, Run}

-- the outcomes of a batch
abbrev pub outcomes_of : Batch → List Outcome
outcomes_of (Run joined) = joined.outcomes.items
outcomes_of (Apart outcomes) = outcomes.items

-- where it is a run, that of their chunks
abbrev pub IsRunOfAll : Batch → Type 0
IsRunOfAll (Run joined) = IsJoined joined
IsRunOfAll (Apart outcomes) = ⊤

-- the outcomes are of jobs of these chunks, and a run is that of their chunks
pub record IsBatch (chunks : List (List (ℕ × Piece))) (b : Batch) : Type 0 where
  pub made : AreOutcomes chunks (outcomes_of b)
  pub run : IsRunOfAll b
