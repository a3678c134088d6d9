-- Chunks of one frame that follow one another, as one run.
use Rattle.std.specs.Prelude.{◌≡◌, ◌+◌, ◌≤◌, ◌==◌, ⊤, ℕ, List, [], ◌∷◌, drop, flat_map, length, take}
use Rattle.std.specs.List.{prefix_len}
use Rattle.df_value.specs.Chunks.{ChunkParts, IsChunk}
use Rattle.df_value.specs.Limits as limits
use Rattle.df_value.specs.declared.cell.Cell.{Cell}
use Rattle.df_value.specs.declared.cell.CellType.{CellType}
use Rattle.df_value.specs.declared.chunk.Piece.TheVariants.{Good}
use Rattle.df_jobs.specs.declared.jobs.Outcome.{Outcome}
use Rattle.df_jobs.specs.declared.joining.Head.{Head}
use Rattle.df_jobs.specs.declared.joining.Joined.{Joined}
use Rattle.df_jobs.specs.declared.joining.Part.{Part}
use Rattle.df_jobs.specs.Made.{number_in, rows_in}

-- how many outcomes stand before the first one of another frame than the first
abbrev pub count_of_first_frame : List Outcome → ℕ
count_of_first_frame [] = 0
count_of_first_frame (o ∷ os) = 1 + prefix_len (λ p. p.frame == o.frame) os

-- the rows of these outcomes, one after another
abbrev pub all_rows : List Outcome → List (List Cell)
all_rows os = flat_map (λ o. rows_in o.made) os

-- an outcome of this frame whose chunk is good, has this schema, and begins with this number
pub record IsGoodAt (frame : ℕ) (schema : List (List ℕ × CellType)) (number : ℕ) (o : Outcome) : Type 0 where
  pub of_frame : o.frame ≡ frame
  pub chunk : ChunkParts
  pub good : o.made ≡ Good chunk
  pub of_schema : chunk.schema ≡ schema
  pub of_number : chunk.first ≡ number
  pub sound : IsChunk chunk.schema chunk.first chunk.rows

-- these outcomes are good chunks of the frame and the schema, the first of which begins with this number, and each further one
-- with the number behind the one before
abbrev pub FollowFrom : ℕ → List (List ℕ × CellType) → ℕ → List Outcome → Type 0
FollowFrom frame schema number [] = ⊤
FollowFrom frame schema number (o ∷ os) = IsGoodAt frame schema number o × FollowFrom frame schema (number + length (rows_in o.made)) os

-- they are what the head of a run says, and have no more rows than a frame
pub record AreRun (head : Head) (outcomes : List Outcome) : Type 0 where
  pub follow : FollowFrom head.frame head.schema head.first outcomes
  pub count : head.rows ≡ length (all_rows outcomes)
  pub few : length (all_rows outcomes) ≤ limits.most_rows_of_frame

-- the outcomes follow one another as chunks of the frame, and the run has exactly their rows, at their numbers and in their order
pub record IsJoined (joined : Joined) : Type 0 where
  pub follow : FollowFrom joined.frame joined.run.schema joined.run.first joined.outcomes.items
  pub rows : joined.run.rows ≡ all_rows joined.outcomes.items

-- what is left of an outcome whose rows were taken out
abbrev pub part_of : Outcome → Part
part_of o = record { job = o.job; frame = o.frame; first = o.first; number = number_in o.made; rows = length (rows_in o.made) }

-- the parts have their rows in a run from an index on, one after another, at their numbers
abbrev pub StandIn : ChunkParts → ℕ → List Part → Type 0
StandIn run low [] = ⊤
StandIn run low (p ∷ ps) = (low + p.rows ≤ length run.rows) × (p.rows ≤ limits.most_rows_of_chunk) × (p.number ≡ run.first + low) × StandIn run (low + p.rows) ps

-- the outcomes of these parts
abbrev pub outcome_in : ChunkParts → ℕ → Part → Outcome
outcome_in run low p = record {
  job = p.job;
  frame = p.frame;
  first = p.first;
  made = Good (record { schema = run.schema; first = p.number; rows = take p.rows (drop low run.rows) });
}

abbrev pub outcomes_in : ChunkParts → ℕ → List Part → List Outcome
outcomes_in run low [] = []
outcomes_in run low (p ∷ ps) = outcome_in run low p ∷ outcomes_in run (low + p.rows) ps
