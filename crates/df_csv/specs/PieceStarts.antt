-- That each piece stands at its index, and that a good one begins with the row that its source says and has a row of
-- each of its records: facts for the laws of a source.
use Rattle.std.specs.Prelude.{◌≡◌, ◌+◌, ◌*◌, ◌<◌, ℕ, zero, suc, List, length, min, take, drop, Some, option_map, slice_get}
use Rattle.std.specs.List.{range_with_len}
use Rattle.std.proofs.Common.{ap, arith, refl, sym, ◌∙◌, zero-add}
use Rattle.std.proofs.lemmas.List.{length-drop, length-map, length-take}
use Rattle.std.proofs.lemmas.Option.{same_Some, slice_get-map, slice_get_within}
use Rattle.df_value.specs.Chunks.{ChunkParts}
use Rattle.df_value.specs.declared.cell.CellType.{CellType}
use Rattle.df_value.specs.declared.chunk.Piece.{Piece}
use Rattle.df_value.specs.declared.chunk.Piece.TheVariants as made
use Rattle.df_csv.specs.declared.typed.TypedRows.{TypedRows}
use Rattle.df_csv.specs.declared.typed.TypedRows.TheVariants as all
use Rattle.df_csv.specs.GoodPieces.{good_length}
use Rattle.df_csv.specs.Records.{FieldRows}
use Rattle.df_csv.specs.Sources.{CsvParts, chunks_of, records_in_piece, start_of}
use Rattle.df_csv.specs.Typed.{piece_from, piece_count, piece_of, pieces_of, rows_typed}

pub range_length : (a m : ℕ) → length (range_with_len a m) ≡ m
range_length a zero = refl
range_length a (suc m) = ap suc (range_length (a + 1) m)

pub range_at : (a m n : ℕ) → n < m → slice_get (range_with_len a m) n ≡ Some (a + n)
range_at a zero n h = absurd (omega arith)
range_at a (suc m) zero h = ap Some (omega arith)
range_at a (suc m) (suc n) h = range_at (a + 1) m n (omega arith) ∙ ap Some (omega arith)

pub pieces_length : (schema : List (List ℕ × CellType)) (k : ℕ) (records : FieldRows) → length (pieces_of schema k records) ≡ piece_count k (length records)
pieces_length schema k records =
    length-map (range_with_len 0 (piece_count k (length records))) (λ (i : ℕ). piece_of schema (i * k) (take k (drop (i * k) records)))
    ∙ range_length 0 (piece_count k (length records))

pub piece_stands_there : (schema : List (List ℕ × CellType)) (k n : ℕ) (records : FieldRows) → n < piece_count k (length records)
    → slice_get (pieces_of schema k records) n ≡ Some (piece_of schema (n * k) (take k (drop (n * k) records)))
piece_stands_there schema k n records h =
    let f : ℕ → Piece = λ i. piece_of schema (i * k) (take k (drop (i * k) records)) in
    slice_get-map f (range_with_len 0 (piece_count k (length records))) n
    ∙ ap (option_map f) (range_at 0 (piece_count k (length records)) n h) ∙ ap (λ i. Some (f i)) (zero-add n)

-- the first number of a good chunk
abbrev first_number_of : Piece → ℕ → ℕ
first_number_of (made.Good chunk) other = chunk.first
first_number_of (made.Bad cell) other = other

piece_first : (schema : List (List ℕ × CellType)) (first : ℕ) (rows : TypedRows) → first_number_of (piece_from schema first rows) first ≡ first
piece_first schema first (all.Good rows) = refl
piece_first schema first (all.Bad cell) = refl

-- a good chunk begins with the row that its source says
pub starts_there : (source : CsvParts) (n : ℕ) (chunk : ChunkParts) → slice_get (chunks_of source) n ≡ Some (made.Good chunk) → chunk.first ≡ start_of source n
starts_there source n chunk e =
    let within : n < piece_count source.size (length source.records) =
    omega (arith, slice_get_within (chunks_of source) n (made.Good chunk) e, pieces_length source.schema source.size source.records) in
    let is = same_Some _ _ (sym (piece_stands_there source.schema source.size n source.records within) ∙ e) in
    sym (ap (λ m. first_number_of m (n * source.size)) is) ∙ piece_first source.schema (n * source.size) _

-- a piece of these records that is a chunk has as many rows
piece_rows : (schema : List (List ℕ × CellType)) (first : ℕ) (records : FieldRows) (rows : TypedRows) (chunk : ChunkParts) →
    rows_typed schema (first + 1) records ≡ rows → piece_from schema first rows ≡ made.Good chunk → length chunk.rows ≡ length records
piece_rows schema first records (all.Good rows) chunk typed e =
    let same : rows ≡ chunk.rows = cc in
    ap length (sym same) ∙ good_length schema (first + 1) records rows typed
piece_rows schema first records (all.Bad cell) chunk typed e = absurd (cc)

-- a good chunk has a row of each record that its piece is made of
pub rows_counted : (source : CsvParts) (n : ℕ) (chunk : ChunkParts) → slice_get (chunks_of source) n ≡ Some (made.Good chunk) →
    length chunk.rows ≡ records_in_piece source n
rows_counted source n chunk e =
    let within : n < piece_count source.size (length source.records) =
    omega (arith, slice_get_within (chunks_of source) n (made.Good chunk) e, pieces_length source.schema source.size source.records) in
    let is = same_Some _ _ (sym (piece_stands_there source.schema source.size n source.records within) ∙ e) in
    let left = drop (n * source.size) source.records in
    piece_rows source.schema (n * source.size) (take source.size left) _ chunk refl is
    ∙ (length-take source.size left ∙ ap (min source.size) (length-drop (n * source.size) source.records))
