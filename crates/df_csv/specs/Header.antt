-- Where a schema's columns stand in the header of a CSV file, and what is wrong with a header. RFC 4180 allows
-- a header line with the names of the fields; a byte order mark is U+FEFF in UTF-8, as the Unicode standard has it.
use Rattle.std.specs.Prelude.{◌==◌, ℕ, Bool, nat_lt, nat_le, slice_index, ◌&&◌, List, [], ◌∷◌, length, count_by, find, position, option_map, Option, unwrap_or, if◌then◌else◌}
use Rattle.std.specs.Option.{option_or}
use Rattle.std.specs.Str.{bytes_eq}
use Rattle.csv.specs.Reading.{is_bom}
use Rattle.df_value.specs.declared.cell.CellType.{CellType}
use Rattle.df_csv.specs.declared.fault.CsvFault.{CsvFault}
use Rattle.df_csv.specs.declared.fault.CsvFault.TheVariants.{DoubledHeader, MissingColumn}

-- whether a text begins with a mark
abbrev pub starts_with_mark : List ℕ → Bool
starts_with_mark text = nat_le 3 (length text) && is_bom (slice_index text 0) (slice_index text 1) (slice_index text 2)

-- a text without the marks at its start, as many as stand there
unfoldable pub without_marks : List ℕ → List ℕ
without_marks [] = []
without_marks (a ∷ []) = a ∷ []
without_marks (a ∷ b ∷ []) = a ∷ b ∷ []
without_marks (a ∷ b ∷ c ∷ rest) = if is_bom a b c then without_marks rest else a ∷ b ∷ c ∷ rest

-- how often a name stands in the header
abbrev pub count_named : List (List ℕ) → List ℕ → ℕ
count_named header name = count_by (λ h. bytes_eq h name) header

-- the first index of a name
abbrev pub header_index : List (List ℕ) → List ℕ → ℕ
header_index header name = unwrap_or (position (λ h. bytes_eq h name) header) 0

-- the first column whose name stands twice in the header, and the first whose name does not stand there
abbrev pub doubled_column : List (List ℕ) → List (List ℕ × CellType) → Option (List ℕ × CellType)
doubled_column header columns = find (λ c. nat_lt 1 (count_named header c.0)) columns

abbrev pub missing_column : List (List ℕ) → List (List ℕ × CellType) → Option (List ℕ × CellType)
missing_column header columns = find (λ c. count_named header c.0 == 0) columns

-- what is wrong with a header: a name that stands twice, or else one that is missing
abbrev pub header_fault : List (List ℕ × CellType) → List (List ℕ) → Option CsvFault
header_fault columns header =
    option_or (option_map (λ c. DoubledHeader c.0) (doubled_column header columns)) (option_map (λ c. MissingColumn c.0) (missing_column header columns))
