-- What lines of CSV say: the rows of their records, which stand under a header.
use Rattle.std.specs.Prelude.{◌≡◌, ◌≢◌, ◌<◌, ℕ, List, Result, Ok, Err, Some, length, slice_get}
use Rattle.df_csv.specs.Records.{FieldRows, records_of}
use Rattle.df_csv.specs.Typed.{pieces_of, rows_typed}
use Rattle.df_csv.specs.declared.fault.CsvFault.{CsvFault}
use Rattle.df_csv.specs.declared.fault.CsvFault.TheVariants as csv_fault
use Rattle.df_csv.specs.declared.typed.TypedRows.TheVariants as typed_rows
use Rattle.df_value.specs.declared.chunk.Piece.TheVariants as piece
use Rattle.df_value.specs.Chunks.{ChunkParts}
use Rattle.df_value.specs.Limits.{most_rows_of_chunk}
use Rattle.df_value.specs.declared.cell.Cell.{Cell}
use Rattle.df_value.specs.declared.cell.CellType.{CellType}
use Rattle.dataframes.specs.declared.csv_rows.LinesFault.{LinesFault}
use Rattle.dataframes.specs.declared.csv_rows.LinesFault.TheVariants.{Csv, TooMany, BadCell}

-- what records make: their rows, too many for one change, or the first cell that is no value of its column
abbrev pub AreTyped : List (List ℕ × CellType) → FieldRows → Result (List (List Cell)) LinesFault → Type 0
AreTyped schema records (Ok rows) = rows_typed schema 1 records ≡ typed_rows.Good rows
AreTyped schema records (Err (Csv f)) = f ≡ csv_fault.Memory
AreTyped schema records (Err TooMany) = most_rows_of_chunk < length records
AreTyped schema records (Err (BadCell cell)) = rows_typed schema 1 records ≡ typed_rows.Bad cell

-- lines under this schema have these records
abbrev pub IsReadFrom : List (List ℕ × CellType) → List ℕ → List (List ℕ × CellType) → FieldRows → Type 0
IsReadFrom schema lines kept records = (kept ≡ schema) × (records_of lines schema ≡ Ok records)

-- why they have none: their first fault, or memory was refused
abbrev pub HaveNoRecords : List (List ℕ × CellType) → List ℕ → CsvFault → Type 0
HaveNoRecords schema lines f = f ≢ csv_fault.Memory → records_of lines schema ≡ Err f

-- what a part of records makes, by the pieces of 65,536 records that they make in turn: its rows, or its first bad cell
abbrev pub IsTypedPart : List (List ℕ × CellType) → FieldRows → ℕ → Result (List (List Cell)) LinesFault → Type 0
IsTypedPart schema records part (Ok rows) =
    (chunk : ChunkParts) × (slice_get (pieces_of schema most_rows_of_chunk records) part ≡ Some (piece.Good chunk)) × (rows ≡ chunk.rows)
IsTypedPart schema records part (Err (Csv f)) = f ≡ csv_fault.Memory
IsTypedPart schema records part (Err TooMany) = ⊥
IsTypedPart schema records part (Err (BadCell cell)) = slice_get (pieces_of schema most_rows_of_chunk records) part ≡ Some (piece.Bad cell)

-- what the records of lines make
pub record HaveRecords (schema : List (List ℕ × CellType)) (lines : List ℕ) (result : Result (List (List Cell)) LinesFault) : Type 0 where
  pub records : FieldRows
  pub said : records_of lines schema ≡ Ok records
  pub typed : AreTyped schema records result

-- What lines say: rows, or why they say none. Memory may be refused at any time.
abbrev pub SayRows : List (List ℕ × CellType) → List ℕ → Result (List (List Cell)) LinesFault → Type 0
SayRows schema lines (Ok rows) = HaveRecords schema lines (Ok rows)
SayRows schema lines (Err (Csv f)) = HaveNoRecords schema lines f
SayRows schema lines (Err TooMany) = HaveRecords schema lines (Err TooMany)
SayRows schema lines (Err (BadCell cell)) = HaveRecords schema lines (Err (BadCell cell))
