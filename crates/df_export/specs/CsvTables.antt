-- Tables as CSV, by the rules of the default writer of the crate csv, but that an empty text is in quotes, so that
-- it is not null.
use Rattle.std.specs.Prelude.{◌==◌, ◌||◌, ◌++◌, ℕ, Bool, true, false, List, [], ◌∷◌, length, map, flat_map, codes, if◌then◌else◌}
use Rattle.std.specs.Fmt.{signed_decimal}
use Rattle.csv.specs.Writing.{default_writer, needs_quotes, quoted, read_back}
use Rattle.df_value.specs.declared.cell.Cell.{Cell}
use Rattle.df_value.specs.declared.cell.Cell.TheVariants as cell
use Rattle.df_value.specs.Schemas.{Columns}
use Rattle.df_csv.specs.Records.{FieldRows}

-- the text of a cell without quotes, as a reader finds it in its field
abbrev pub unquoted : Cell → List ℕ
unquoted cell.Null = []
unquoted (cell.Int n) = signed_decimal n
unquoted (cell.Wide n) = signed_decimal n
unquoted (cell.Text t) = t
unquoted (cell.Bool true) = codes "true"
unquoted (cell.Bool false) = codes "false"
unquoted (cell.Frac f) = signed_decimal f.0 ++ (codes "/" ++ signed_decimal f.1)

-- whether a text is written in quotes: where it is empty, or has a comma, a quote or the end of a line
abbrev pub is_quoted : List ℕ → Bool
is_quoted t = (length t == 0) || needs_quotes default_writer t

-- the field of a text
abbrev pub text_field : List ℕ → List ℕ
text_field t = if is_quoted t then quoted default_writer t else t

-- the field of a cell
abbrev pub csv_field : Cell → List ℕ
csv_field cell.Null = []
csv_field (cell.Int n) = text_field (unquoted (cell.Int n))
csv_field (cell.Wide n) = text_field (unquoted (cell.Wide n))
csv_field (cell.Text t) = text_field (unquoted (cell.Text t))
csv_field (cell.Bool b) = text_field (unquoted (cell.Bool b))
csv_field (cell.Frac f) = text_field (unquoted (cell.Frac f))

-- the fields behind the first of a line, a comma before each
abbrev pub rest_of_line : List Cell → List ℕ
rest_of_line cells = flat_map (λ c. codes "," ++ csv_field c) cells

-- the fields of a line
abbrev pub csv_fields : List Cell → List ℕ
csv_fields [] = []
csv_fields (c ∷ cells) = csv_field c ++ rest_of_line cells

abbrev pub is_null : Cell → Bool
is_null cell.Null = true
is_null _ = false

-- whether the fields of a row have no byte: readers pass over such a line
abbrev pub is_blank : List Cell → Bool
is_blank [] = true
is_blank (c ∷ []) = is_null c
is_blank (c ∷ d ∷ cells) = false

-- the line of a row
abbrev pub csv_line : List Cell → List ℕ
csv_line row = (if is_blank row then text_field [] else csv_fields row) ++ codes "\n"

-- the names of columns, as a row
abbrev pub header_cells : Columns → List Cell
header_cells columns = map (λ c. cell.Text c.0) columns

-- a table: the line of the names, and a line for each row
abbrev pub csv_of : Columns → List (List Cell) → List ℕ
csv_of columns rows = csv_line (header_cells columns) ++ flat_map csv_line rows

-- the record that a reader finds in the line of a row: a row without a cell has one empty field
abbrev pub record_of : List Cell → List (List ℕ)
record_of row = read_back (map unquoted row)

-- the records of a table: that of the names, and one for each row
abbrev pub table_records : Columns → List (List Cell) → FieldRows
table_records columns rows = map record_of (header_cells columns ∷ rows)
