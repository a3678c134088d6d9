-- Jobs: each chunk of each source, numbered by frame and then by chunk.
use Rattle.std.specs.Prelude.{◌≡◌, ◌+◌, ⊤, ℕ, List, [], ◌∷◌, ◌++◌, ◌<◌, length, map, All, Some, option_map, slice_get, slice_index_or}
use Rattle.df_value.specs.declared.chunk.Piece.{Piece}
use Rattle.df_value.specs.declared.chunk.Piece.TheVariants.{Bad, Good}
use Rattle.df_jobs.specs.declared.jobs.Outcome.{Outcome}

-- the chunks of a source from a place on, each behind the number of its first row
abbrev pub numbered : (ℕ → ℕ) → ℕ → List Piece → List (ℕ × Piece)
numbered start n [] = []
numbered start n (m ∷ ms) = (start n, m) ∷ numbered start (n + 1) ms

-- the jobs of the frames from one on: each has its frame, the number of its chunk's first row, and the chunk
abbrev pub jobs_from : ℕ → List (List (ℕ × Piece)) → List (ℕ × (ℕ × Piece))
jobs_from frame [] = []
jobs_from frame (c ∷ cs) = map (λ x. (frame, x)) c ++ jobs_from (frame + 1) cs

-- the jobs of all frames
abbrev pub jobs_of : List (List (ℕ × Piece)) → List (ℕ × (ℕ × Piece))
jobs_of chunks = jobs_from 0 chunks

-- the chunks of these sources, which make chunks and number them so
abbrev pub chunks_of : {S : Type 0} → (S → List Piece) → (S → ℕ → ℕ) → List S → List (List (ℕ × Piece))
chunks_of made start sources = map (λ s. numbered (start s) 0 (made s)) sources

-- a job is the chunk at this place of the source of this frame
pub record IsPlace {S : Type 0} (made : S → List Piece) (start : S → ℕ → ℕ) (sources : List S) (job frame chunk : ℕ) : Type 0 where
  pub within : frame < length sources
  pub inside : (d : S) → chunk < length (made (slice_index_or sources frame d))
  pub is : (d : S) →
      slice_get (jobs_of (chunks_of made start sources)) job
      ≡ option_map (λ m. (frame, (start (slice_index_or sources frame d) chunk, m))) (slice_get (made (slice_index_or sources frame d)) chunk)

-- the job that an outcome is of, and what it made
abbrev pub job_of : Outcome → ℕ × (ℕ × Piece)
job_of o = (o.frame, (o.first, o.made))

-- an outcome is what the job of its number makes
abbrev pub IsOutcome : List (List (ℕ × Piece)) → Outcome → Type 0
IsOutcome chunks o = slice_get (jobs_of chunks) o.job ≡ Some (o.frame, (o.first, o.made))

-- all of them are
abbrev pub AreOutcomes : List (List (ℕ × Piece)) → List Outcome → Type 0
AreOutcomes chunks os = All (λ o. IsOutcome chunks o) os

-- so many jobs of one load at most
abbrev pub most_jobs : ℕ
most_jobs = 4294967296

-- a good chunk begins with this number
abbrev pub BeginsAt : ℕ → Piece → Type 0
BeginsAt n (Good c) = c.first ≡ n
BeginsAt n (Bad b) = ⊤

-- the good chunks of outcomes begin with the numbers of their jobs
abbrev pub AreBegun : List Outcome → Type 0
AreBegun os = All (λ o. BeginsAt o.first o.made) os
