-- The pieces of a CSV file as a list of chunks with the numbers of their first rows.
use Rattle.std.specs.Prelude.{◌-◌, ◌<◌, ◌≤◌, ℕ, List, length, min}
use Rattle.df_value.specs.Limits.{most_rows_of_chunk}
use Rattle.df_value.specs.declared.cell.CellType.{CellType}
use Rattle.df_value.specs.declared.chunk.Piece.{Piece}
use Rattle.df_csv.specs.Records.{IsRecords, FieldRows}
use Rattle.df_csv.specs.Typed.{piece_start, pieces_of}

-- what callers see of a source: records, their schema, and how many records make a piece
pub record CsvParts : Type 0 where
  pub records : FieldRows
  pub schema : List (List ℕ × CellType)
  pub size : ℕ

-- what a source keeps: few enough records of the schema's width, and pieces of at least 1 of them and no more than a chunk has
pub record IsCsvSource (records : FieldRows) (schema : List (List ℕ × CellType)) (size : ℕ) : Type 0 where
  pub sound : IsRecords (length schema) records
  pub some : 0 < size
  pub short : size ≤ most_rows_of_chunk

-- the chunks of a source: its pieces
abbrev pub chunks_of : CsvParts → List Piece
chunks_of source = pieces_of source.schema source.size source.records

-- the number of the first row of piece n
abbrev pub start_of : CsvParts → ℕ → ℕ
start_of source n = piece_start source.size n

-- how many records piece n is made of: as many as a piece has, or as are left
abbrev pub records_in_piece : CsvParts → ℕ → ℕ
records_in_piece source n = min source.size (length source.records - start_of source n)
