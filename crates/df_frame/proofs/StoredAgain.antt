-- A chunk that stands in blocks, made again.
use Rattle.std.proofs.Common.{◌≡◌, ◌≢◌, ℕ, ◌+◌, ◌≤◌, Bool, true, false, ◌∙◌, List, [], ◌∷◌, length, refl, ap, sym, arith}
use Rattle.std.specs.Prelude.{IsTrue, None, Option, Some, cond, nat_lt, not, option_map, position, if◌then◌else◌, ◌&&◌}
use Rattle.std.specs.List.{position_from}
use Rattle.std.proofs.lemmas.Bool.{le-ltb}
use Rattle.std.proofs.lemmas.Iterator.Adapters.{position_from-zero}
use Rattle.df_value.specs.ChunkFaults.{chunk_fault}
use Rattle.df_value.specs.Chunks.{IsChunk}
use Rattle.df_value.specs.Limits.{most_rows_of_chunk, row_numbers}
use Rattle.df_value.specs.Rows.{row_fits, rows_fit}
use Rattle.df_value.specs.declared.cell.Cell.{Cell}
use Rattle.df_value.specs.declared.cell.CellType.{CellType}
use Rattle.df_value.specs.declared.chunk.ChunkFault.{ChunkFault}
use Rattle.df_value.specs.declared.chunk.ChunkFault.TheVariants as fault

at-head : (b all : Bool) (n : ℕ) (rest : Option ℕ) → IsTrue (b && all) → (IsTrue all → rest ≡ None) → cond (not b) (Some n) rest ≡ None
at-head true all n rest h later = later h
at-head false all n rest h later = cc

none-unlike :
    (columns : List (List ℕ × CellType)) (n : ℕ) (rows : List (List Cell)) → IsTrue (rows_fit columns rows) → position_from (λ r. not (row_fits columns r)) n rows ≡ None
none-unlike columns n [] h = refl
none-unlike columns n (r ∷ rs) h = at-head (row_fits columns r) (rows_fit columns rs) n _ h (none-unlike columns (n + 1) rs)

-- a chunk's parts make a chunk
pub no-fault : (schema : List (List ℕ × CellType)) (first : ℕ) (rows : List (List Cell)) → IsChunk schema first rows → chunk_fault schema first rows ≡ None
no-fault schema first rows sound =
    let short : nat_lt most_rows_of_chunk (length rows) ≡ false = le-ltb most_rows_of_chunk (length rows) sound.short in
    let numbered : nat_lt row_numbers (first + length rows) ≡ false = le-ltb row_numbers (first + length rows) sound.numbered in
    let unlike : position (λ r. not (row_fits schema r)) rows ≡ None = position_from-zero (λ r. not (row_fits schema r)) rows ∙ none-unlike schema 0 rows sound.fitting in
    ap (λ b. if b then Some fault.TooLong else if nat_lt row_numbers (first + length rows) then Some fault.NumberTooLarge
    else option_map fault.RowUnlike (position (λ r. not (row_fits schema r)) rows)) short
    ∙ (ap (λ b. if b then Some fault.NumberTooLarge else option_map fault.RowUnlike (position (λ r. not (row_fits schema r)) rows)) numbered
    ∙ ap (option_map fault.RowUnlike) unlike)

-- a fault that is none of theirs is that of memory
pub memory-alone : (f : ChunkFault) (o : Option ChunkFault) → (f ≢ fault.Memory → o ≡ Some f) → o ≡ None → f ≡ fault.Memory
memory-alone fault.TooLong o is none = let some = is (λ e. cc) in absurd (cc)
memory-alone fault.NumberTooLarge o is none = let some = is (λ e. cc) in absurd (cc)
memory-alone (fault.RowUnlike at) o is none = let some = is (λ e. cc) in absurd (cc)
memory-alone fault.Memory o is none = refl
