-- The typed pieces of a CSV file: its records cut into pieces of k records, each a chunk of rows or its first bad
-- cell, by record and then by column.
use Rattle.std.specs.Prelude.{◌+◌, ◌*◌, ℕ, List, [], ◌∷◌, length, map, take, drop, Option, Some, None}
use Rattle.std.specs.Int.{div_ceil}
use Rattle.std.specs.List.{range_with_len}
use Rattle.df_value.specs.declared.cell.Cell.{Cell}
use Rattle.df_value.specs.declared.cell.CellType.{CellType}
use Rattle.df_value.specs.declared.chunk.Piece.{Piece}
use Rattle.df_value.specs.declared.chunk.Piece.TheVariants as made
use Rattle.df_csv.specs.declared.typed.TypedRow.{TypedRow}
use Rattle.df_csv.specs.declared.typed.TypedRow.TheVariants as one
use Rattle.df_csv.specs.declared.typed.TypedRows.{TypedRows}
use Rattle.df_csv.specs.declared.typed.TypedRows.TheVariants as all
use Rattle.df_csv.specs.Fields.{cell_of_text}

-- a cell before the rest of a row; a field that gives none is bad in the column at this index
abbrev pub cell_before : ℕ → Option Cell → TypedRow → TypedRow
cell_before at None rest = one.Bad at
cell_before at (Some v) (one.Good vs) = one.Good (v ∷ vs)
cell_before at (Some v) (one.Bad i) = one.Bad i

-- the cells of a record's fields in the columns from this index on, or the index of the first bad one
abbrev pub row_from : ℕ → List (List ℕ × CellType) → List (List ℕ) → TypedRow
row_from at [] fields = one.Good []
row_from at (c ∷ cs) [] = one.Good []
row_from at (c ∷ cs) (f ∷ fs) = cell_before at (cell_of_text c.1 f) (row_from (at + 1) cs fs)

-- the row of a record, or the index of its first bad cell
abbrev pub row_of : List (List ℕ × CellType) → List (List ℕ) → TypedRow
row_of columns fields = row_from 0 columns fields

-- a row before others; a bad cell in it is the first
abbrev pub row_before : ℕ → TypedRow → TypedRows → TypedRows
row_before n (one.Bad column) rest = all.Bad (record { number = n; column = column })
row_before n (one.Good row) (all.Good rows) = all.Good (row ∷ rows)
row_before n (one.Good row) (all.Bad cell) = all.Bad cell

-- the rows of records, the first of which has the number n, or the first bad cell
abbrev pub rows_typed : List (List ℕ × CellType) → ℕ → List (List (List ℕ)) → TypedRows
rows_typed columns n [] = all.Good []
rows_typed columns n (r ∷ rs) = row_before n (row_of columns r) (rows_typed columns (n + 1) rs)

-- a chunk whose first row has this number, or the bad cell
abbrev pub piece_from : List (List ℕ × CellType) → ℕ → TypedRows → Piece
piece_from schema first (all.Good rows) = made.Good (record { schema = schema; first = first; rows = rows })
piece_from schema first (all.Bad cell) = made.Bad cell

-- the piece of these records, the first of which stands behind so many others; the n-th record of a file is
-- row n - 1
abbrev pub piece_of : List (List ℕ × CellType) → ℕ → List (List (List ℕ)) → Piece
piece_of schema first records = piece_from schema first (rows_typed schema (first + 1) records)

-- how many pieces of at most k records so many records make: their number through k, rounded up
abbrev pub piece_count : ℕ → ℕ → ℕ
piece_count k records = div_ceil records k

-- the number of the first row of piece n, of k records each
abbrev pub piece_start : ℕ → ℕ → ℕ
piece_start k n = n * k

-- the pieces of k records, the last one perhaps shorter: piece n is of the records from n * k on
abbrev pub pieces_of : List (List ℕ × CellType) → ℕ → List (List (List ℕ)) → List Piece
pieces_of schema k records =
    map (λ n. piece_of schema (n * k) (take k (drop (n * k) records))) (range_with_len 0 (piece_count k (length records)))
