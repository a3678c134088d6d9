-- What a CSV file says under a schema: of each record the fields of the schema's columns, or the first fault.
-- The records are those that the crate csv defines for commas and double quotes (RFC 4180, and beside its line
-- ends a lone CR or LF); blank lines are passed over.
use Rattle.std.specs.Prelude.{◌≡◌, ◌≢◌, ◌+◌, ◌≤◌, ◌==◌, ℕ, zero, suc, not, nat_lt, List, [], ◌∷◌, ◌++◌, length, map, flat_map, take, drop, Option, Some, None, slice_get, unwrap_or, Result, Ok, Err, All, ⊤, if◌then◌else◌}
use Rattle.df_value.specs.Limits.{most_rows_of_frame}
use Rattle.std.specs.Str.{is_utf8}
use Rattle.csv.specs.Reading.{default_config, records}
use Rattle.csv.specs.Records.{AllText, field_at}
use Rattle.df_value.specs.declared.cell.CellType.{CellType}
use Rattle.df_csv.specs.declared.fault.CsvFault.{CsvFault}
use Rattle.df_csv.specs.declared.fault.CsvFault.TheVariants.{ReadFault, TooLarge, NotText, BadRecord, TooManyRecords, Memory}
use Rattle.df_csv.specs.Header.{header_fault, header_index, without_marks}

-- records, each the list of its fields
abbrev pub FieldRows : Type 0
FieldRows = List (List (List ℕ))

-- the fields at these indices
abbrev pub fields_at : List ℕ → List (List ℕ) → List (List ℕ)
fields_at indices row = map (λ i. unwrap_or (field_at row i) []) indices

-- rows, and then those of a list that may have a fault
abbrev pub after_rows : FieldRows → Result FieldRows CsvFault → Result FieldRows CsvFault
after_rows xs (Ok ys) = Ok (xs ++ ys)
after_rows xs (Err e) = Err e

-- the picked rows of the records from the n-th on: each has as many fields as the header, and no file has
-- more of them than a frame can accept
unfoldable pub checked_records : ℕ → List ℕ → ℕ → FieldRows → Result FieldRows CsvFault
checked_records width indices n [] = Ok []
checked_records width indices n (r ∷ rs) =
    if not (length r == width) then Err (BadRecord n)
    else if nat_lt most_rows_of_frame n then Err TooManyRecords
    else after_rows (fields_at indices r ∷ []) (checked_records width indices (n + 1) rs)

abbrev pub unless_bad_header : Option CsvFault → Result FieldRows CsvFault → Result FieldRows CsvFault
unless_bad_header (Some e) rows = Err e
unless_bad_header None rows = rows

-- the first record is the header, and a text with no record has no name in it
abbrev pub records_under_header : List (List ℕ × CellType) → FieldRows → Result FieldRows CsvFault
records_under_header columns [] = unless_bad_header (header_fault columns []) (Ok [])
records_under_header columns (header ∷ rows) =
    unless_bad_header (header_fault columns header) (checked_records (length header) (map (λ c. header_index header c.0) columns) 1 rows)

-- the records of a text
abbrev pub records_of : List ℕ → List (List ℕ × CellType) → Result FieldRows CsvFault
records_of bytes columns =
    if is_utf8 (without_marks bytes) then records_under_header columns (records default_config (without_marks bytes)) else Err NotText

-- a file has at most so many bytes, this project's own choice
abbrev pub most_bytes_of_file : ℕ
most_bytes_of_file = 67108864

-- the records of a file, which may not be too large
abbrev pub file_records : List ℕ → List (List ℕ × CellType) → Result FieldRows CsvFault
file_records bytes columns = if nat_lt most_bytes_of_file (length bytes) then Err TooLarge else records_of bytes columns

-- the answer is what the text says, unless memory ran out
abbrev pub Gives : Result FieldRows CsvFault → Result FieldRows CsvFault → Type 0
Gives (Ok rows) said = said ≡ Ok rows
Gives (Err e) said = e ≢ Memory → said ≡ Err e

-- the answer is what the file says, unless a read failed or memory ran out
abbrev pub GivesRead : Result FieldRows CsvFault → Result FieldRows CsvFault → Type 0
GivesRead (Ok rows) said = said ≡ Ok rows
GivesRead (Err e) said = e ≢ ReadFault → e ≢ Memory → said ≡ Err e

-- so many rows of one width, of fields that stand one behind the other
abbrev pub rows_of_width : ℕ → ℕ → List (List ℕ) → FieldRows
rows_of_width width zero fields = []
rows_of_width width (suc n) fields = take width fields ∷ rows_of_width width n (drop width fields)

-- the records of these parts, one part behind the other
abbrev pub records_of_parts : List FieldRows → FieldRows
records_of_parts parts = flat_map (λ part. part) parts

-- the fields of the record at this index, none where there is no such record
abbrev pub record_at : FieldRows → ℕ → List (List ℕ)
record_at rows i = unwrap_or (slice_get rows i) []

-- few enough records, each with so many fields
pub record IsRecords (width : ℕ) (rows : FieldRows) : Type 0 where
  pub few : length rows ≤ most_rows_of_frame
  pub even : All (λ r. length r ≡ width) rows

-- every field of these records is text
unfoldable pub EveryText : FieldRows → Type 0
EveryText [] = ⊤
EveryText (r ∷ rs) = AllText r × EveryText rs
