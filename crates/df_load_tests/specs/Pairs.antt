-- The chunks of the tests' source: each has two rows, and the one cell of a row is its number.
use Rattle.std.specs.Prelude.{◌≡◌, ◌+◌, ◌*◌, ◌<◌, ℕ, List, [], ◌∷◌, length, map, Some, option_map, pos, slice_get}
use Rattle.std.specs.List.{range_with_len}
use Rattle.std.proofs.Common.{zero, suc, ap, arith, sym, ◌∙◌, zero-add}
use Rattle.std.proofs.lemmas.List.FromFn.{length-map-range_with_len}
use Rattle.std.proofs.lemmas.Option.{same_Some, slice_get-map, slice_get_within}
use Rattle.df_value.specs.Chunks.{ChunkParts}
use Rattle.df_value.specs.declared.cell.Cell.{Cell}
use Rattle.df_value.specs.declared.cell.Cell.TheVariants as cell
use Rattle.df_value.specs.declared.chunk.Piece.{Piece}
use Rattle.df_value.specs.declared.chunk.Piece.TheVariants as made
use Rattle.df_value.specs.Schemas.{Columns}

-- the row of this number
abbrev pub row_of : ℕ → List Cell
row_of number = cell.Int (pos number) ∷ []

-- the chunk at this index; from one chunk to the next the first number grows by the step
abbrev pub pair_at : Columns → ℕ → ℕ → Piece
pair_at schema step n =
    made.Good (record { schema = schema; first = n * step; rows = row_of (n * step) ∷ row_of (n * step + 1) ∷ [] })

-- so many chunks
abbrev pub pairs_of : Columns → ℕ → ℕ → List Piece
pairs_of schema step count = map (pair_at schema step) (range_with_len 0 count)

-- there are so many
pub pairs-long : (schema : Columns) (step count : ℕ) → length (pairs_of schema step count) ≡ count
pairs-long schema step count = length-map-range_with_len (pair_at schema step) 0 count

range-there : (a count n : ℕ) → n < count → slice_get (range_with_len a count) n ≡ Some (a + n)
range-there a zero n h = absurd (omega arith)
range-there a (suc count) zero h = ap Some (omega arith)
range-there a (suc count) (suc n) h = range-there (a + 1) count n (omega arith) ∙ ap Some (omega arith)

-- each stands at its index
pub pair-there : (schema : Columns) (step count n : ℕ) → n < count → slice_get (pairs_of schema step count) n ≡ Some (pair_at schema step n)
pair-there schema step count n h =
    slice_get-map (pair_at schema step) (range_with_len 0 count) n
    ∙ (ap (option_map (pair_at schema step)) (range-there 0 count n h) ∙ ap (λ i. Some (pair_at schema step i)) (zero-add n))

-- the number of the first row of a good chunk
abbrev first_of : Piece → ℕ → ℕ
first_of (made.Good chunk) other = chunk.first
first_of (made.Bad cell) other = other

-- each begins with the number that its index says
pub pair-starts : (schema : Columns) (step count n : ℕ) (chunk : ChunkParts) → slice_get (pairs_of schema step count) n ≡ Some (made.Good chunk) → chunk.first ≡ n * step
pair-starts schema step count n chunk e =
    let long = pairs-long schema step count in
    let within : n < count = omega (arith, long, slice_get_within (pairs_of schema step count) n (made.Good chunk) e) in
    let is = same_Some _ _ (sym (pair-there schema step count n within) ∙ e) in
    sym (ap (λ m. first_of m (n * step)) is)
