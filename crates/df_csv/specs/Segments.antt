-- A CSV text that is read in segments: where it is cut, and what its segments give.
use Rattle.std.specs.Prelude.{◌≡◌, ◌≢◌, ◌-◌, ◌<◌, ℕ, zero, suc, List, [], ◌∷◌, length, map, drop, slice_index, slice_index_or, All, Option, Some, None, Result, Ok, Err}
use denote.Ref.{Bor}
use Rattle.csv.specs.Reading.{default_config, records, strip_bom}
use Rattle.csv.specs.declared.reader.Reader.{Reader}
use Rattle.df_value.specs.declared.cell.CellType.{CellType}
use Rattle.df_csv.specs.declared.fault.CsvFault.{CsvFault}
use Rattle.df_csv.specs.declared.fault.CsvFault.TheVariants.{Memory}
use Rattle.df_csv.specs.declared.layout.Layout.{Layout}
use Rattle.df_csv.specs.Records.{EveryText, FieldRows, checked_records, fields_at, records_under_header}
use Rattle.df_csv.specs.Rows.{IsPlain, rows_left}

-- a place of a text behind a line feed (10), at which no byte order mark stands, as its first byte (239) does not. Where the
-- text has no double quote, its records can be cut there
pub record IsCut (text : List ℕ) (at : ℕ) : Type 0 where
  pub behind : 0 < at
  pub within : at < length text
  pub feed : slice_index text (at - 1) ≡ 10
  pub unmarked : slice_index text at ≢ 239

-- what a thread may read: no mark at the start, and fields that are texts
abbrev pub IsReadable : List ℕ → Type 0
IsReadable text = (strip_bom text ≡ text) × EveryText (records default_config text)

-- the header, and what it says of the records under it
pub record IsHeaderLayout (columns : List (List ℕ × CellType)) (names : List (List ℕ)) (layout : Layout) : Type 0 where
  pub width : layout.width ≡ length names
  pub says : (rows : FieldRows) → records_under_header columns (names ∷ rows) ≡ checked_records layout.width layout.indices.items 1 rows

-- the same, of the first of these records
abbrev pub IsLayoutOf : List (List ℕ × CellType) → FieldRows → Layout → Type 0
IsLayoutOf columns rows layout = (names : List (List ℕ)) × (rest : FieldRows) × (rows ≡ names ∷ rest) × IsHeaderLayout columns names layout

-- what taking the header gives: what it says, or nothing where there is no record under it and no fault, or the fault
abbrev pub IsReadLayout : {R : Type 0} → (R → Option (List ℕ)) → List (List ℕ × CellType) → Reader R → Reader R → Result (Option Layout) CsvFault → Type 0
IsReadLayout rem columns a b (Ok (Some layout)) =
    IsPlain rem b × ((names : List (List ℕ)) × (rows_left rem a ≡ names ∷ rows_left rem b) × IsHeaderLayout columns names layout)
IsReadLayout rem columns a b (Ok None) = records_under_header columns (rows_left rem a) ≡ Ok []
IsReadLayout rem columns a b (Err e) = e ≢ Memory → records_under_header columns (rows_left rem a) ≡ Err e

-- the rows of the segment at this place: its records, and of those of the first one all but the header
abbrev pub rows_of_segment : ℕ → List ℕ → FieldRows
rows_of_segment zero segment = drop 1 (records default_config segment)
rows_of_segment (suc i) segment = records default_config segment

-- rows of this width, and what is picked of them
pub record ArePicked (width : ℕ) (indices : List ℕ) (rows picked : FieldRows) : Type 0 where
  pub even : All (λ r. length r ≡ width) rows
  pub picks : picked ≡ map (fields_at indices) rows

-- a part of each segment, with what is picked of its rows
pub record AreRead (width : ℕ) (indices : List ℕ) (segments : List (Bor (List ℕ))) (parts : List FieldRows) : Type 0 where
  pub count : length parts ≡ length segments
  pub each : (i : ℕ) (s : Bor (List ℕ)) (p : FieldRows) → i < length segments → ArePicked width indices (rows_of_segment i (slice_index_or segments i s).now) (slice_index_or parts i p)
