-- The jobs of a load of two sources of pairs are few, and a chunk of a source is the pair of its index.
use Rattle.std.proofs.Common.{◌≡◌, ℕ, ◌+◌, ◌*◌, ◌<◌, ◌≤◌, ◌∙◌, List, [], ◌∷◌, length, ap, sym, arith}
use Rattle.std.specs.Prelude.{Some, slice_get}
use Rattle.std.proofs.Math.Nat.{mul-le-mul}
use Rattle.df_value.specs.Chunks.{ChunkParts, MakesChunk}
use Rattle.df_value.specs.declared.cell.Cell.{Cell}
use Rattle.df_value.specs.declared.chunk.Piece.TheVariants as made
use Rattle.df_value.specs.Schemas.{Columns}
use Rattle.df_jobs.specs.Jobs.{chunks_of, jobs_of}
use Rattle.df_jobs.proofs.JobFacts.{jobs-of-chunks}
use Rattle.df_load_tests.specs.Pairs.{pair-there, pairs-long, pairs_of, row_of}

-- two sources of at most 255 chunks have few jobs
pub jobs-few : {S : Type 0} (schema : S → Columns) (step count : S → ℕ) (start : S → ℕ → ℕ) (one other : S) → count one ≤ 255 → count other ≤ 255 →
    length (jobs_of (chunks_of (λ s. pairs_of (schema s) (step s) (count s)) start (one ∷ other ∷ []))) ≤ 4294967296
jobs-few schema step count start one other few small =
    let all = jobs-of-chunks (λ s. pairs_of (schema s) (step s) (count s)) start (one ∷ other ∷ []) in
    let first = pairs-long (schema one) (step one) (count one) in
    let second = pairs-long (schema other) (step other) (count other) in
    omega (arith, all, first, second, few, small)

-- the index and the first number of a chunk are small
pub index-small : (schema : Columns) (step count n : ℕ) → n < length (pairs_of schema step count) → count ≤ 255 → n ≤ 255
index-small schema step count n within few = let long = pairs-long schema step count in omega (arith, long, within, few)

pub first-small : (schema : Columns) (step count n : ℕ) → n < length (pairs_of schema step count) → count ≤ 255 → step ≤ 255 → n * step ≤ 65025
first-small schema step count n within few short = mul-le-mul (index-small schema step count n within few) short

-- the chunk of these two rows is the pair of its index
pub is-pair :
    (schema : Columns) (step count n first : ℕ) (rows : List (List Cell)) (chunk : ChunkParts) → n < length (pairs_of schema step count) → first ≡ n * step →
    rows ≡ row_of first ∷ row_of (first + 1) ∷ [] → MakesChunk schema first rows chunk → slice_get (pairs_of schema step count) n ≡ Some (made.Good chunk)
is-pair schema step count n first rows chunk within at are is =
    let row_list : ℕ → List (List Cell) = λ f. row_of f ∷ row_of (f + 1) ∷ [] in
    let of_rows : row_list (n * step) ≡ chunk.rows = ap row_list (sym at) ∙ (sym are ∙ sym is.of_rows) in
    let of_first : n * step ≡ chunk.first = sym at ∙ sym is.of_first in
    let long = pairs-long schema step count in
    pair-there schema step count n (omega (arith, long, within))
    ∙ (ap (λ (s : Columns). Some (made.Good (record { schema = s; first = n * step; rows = row_list (n * step) }))) (sym is.of_schema)
    ∙ (ap (λ (f : ℕ). Some (made.Good (record { schema = chunk.schema; first = f; rows = row_list (n * step) }))) of_first
    ∙ ap (λ (rs : List (List Cell)). Some (made.Good (record { schema = chunk.schema; first = chunk.first; rows = rs }))) of_rows))
