-- Printed tables: the lines of a table in columns. How wide a text is in a terminal the crate unicode_width says,
-- by Unicode's East Asian Width (UAX 11), emoji sequences and combining characters.
use Rattle.std.specs.Prelude.{◌≡◌, ◌+◌, ◌-◌, ◌==◌, ◌||◌, ◌&&◌, not, nat_le, IsTrue, IsUtf8, All, ◌<◌, slice_index_or, ◌/◌, ◌%◌, ℕ, Bool, true, false, ⊤, nat_lt, max, List, [], ◌∷◌, ◌++◌, length, map, fold, slice_get, unwrap_or, replicate, codes, decimal, chars, encode_utf8, flat_map, if◌then◌else◌}
use Rattle.std.specs.Fmt.{signed_decimal}
use Rattle.std.specs.Int.{is_in_range}
use Rattle.std.specs.List.{enumerate_from, join_by, list_all, range_with_len}
use Rattle.unicode_width.specs.Width.{str_width}
use Rattle.df_value.specs.declared.cell.Cell.{Cell}
use Rattle.df_value.specs.declared.cell.Cell.TheVariants as cell
use Rattle.df_value.specs.declared.cell.CellType.{CellType}
use Rattle.df_value.specs.declared.cell.CellType.TheVariants as dtype

-- the lower-case hexadecimal digit
abbrev pub hex_digit : ℕ → ℕ
hex_digit d = if nat_lt d 10 then 48 + d else 87 + d

-- a character of a text as it is printed: a backslash doubled, a control character of ASCII by its code
abbrev pub escaped_char : ℕ → List ℕ
escaped_char c = if c == 92 then codes "\\\\" else if nat_lt c 32 || (c == 127) then 92 ∷ 120 ∷ hex_digit (c / 16) ∷ hex_digit (c % 16) ∷ [] else encode_utf8 c

-- a text as it is printed, character by character
abbrev pub escaped_text : List ℕ → List ℕ
escaped_text text = flat_map escaped_char (chars text)

-- whether a byte is a character of ASCII that is printed as it stands
abbrev pub is_plain : ℕ → Bool
is_plain b = is_in_range 0x20 0x7E b && not (b == 92)

-- whether a byte is no control character of ASCII
abbrev pub is_printable : ℕ → Bool
is_printable b = nat_le 32 b && not (b == 127)

-- whether no byte is one
abbrev pub is_all_printable : List ℕ → Bool
is_all_printable bytes = list_all is_printable bytes

-- no other text is printed as this one
abbrev pub IsPrintedAlone : List ℕ → Type 0
IsPrintedAlone text = (other : List ℕ) → IsUtf8 other → escaped_text other ≡ escaped_text text → other ≡ text

-- a cell as it is printed
abbrev pub cell_text : Cell → List ℕ
cell_text cell.Null = codes "null"
cell_text (cell.Int n) = signed_decimal n
cell_text (cell.Wide n) = signed_decimal n
cell_text (cell.Text t) = escaped_text t
cell_text (cell.Bool true) = codes "true"
cell_text (cell.Bool false) = codes "false"
cell_text (cell.Frac f) = signed_decimal f.0 ++ (codes "/" ++ signed_decimal f.1)

-- the cell of a row at an index, null where the row is shorter
abbrev pub cell_or_null : ℕ → List Cell → Cell
cell_or_null at row = unwrap_or (slice_get row at) cell.Null

-- the texts of a column from top to bottom: its name and its cells
abbrev pub column_texts : ℕ → List ℕ → List (List Cell) → List (List ℕ)
column_texts at name rows = escaped_text name ∷ map (λ row. cell_text (cell_or_null at row)) rows

-- how wide a text is in a terminal, where characters of ambiguous width are narrow
abbrev pub width_of : List ℕ → ℕ
width_of text = str_width false (chars text)

-- the width of a column: the greatest of the widths of its texts
abbrev pub column_width : ℕ → List ℕ → List (List Cell) → ℕ
column_width at name rows = fold max 0 (map width_of (column_texts at name rows))

-- the widths of the columns of a schema
abbrev pub column_widths : List (List ℕ × CellType) → List (List Cell) → List ℕ
column_widths columns rows = map (λ c. column_width c.0 c.1.0 rows) (enumerate_from 0 columns)

-- whether the texts of a column of this type stand at its left
abbrev pub is_left : CellType → Bool
is_left dtype.Text = true
is_left _ = false

-- a text, filled with spaces up to a width: at its right where it stands at the left, else at its left
abbrev pub padded : Bool → ℕ → List ℕ → List ℕ
padded true width text = text ++ replicate (width - width_of text) 32
padded false width text = replicate (width - width_of text) 32 ++ text

-- the texts of a line, each filled up to its column's width
unfoldable pub padded_texts : List (List ℕ × CellType) → List ℕ → List (List ℕ) → List (List ℕ)
padded_texts [] widths texts = []
padded_texts (c ∷ columns) [] texts = []
padded_texts (c ∷ columns) (w ∷ widths) [] = []
padded_texts (c ∷ columns) (w ∷ widths) (t ∷ texts) = padded (is_left c.1) w t ∷ padded_texts columns widths texts

-- two spaces between two texts of a line
abbrev pub gap : Bool → List ℕ
gap true = []
gap false = codes "  "

-- a line: its texts with two spaces between each two, and a newline
unfoldable pub printed_line : List (List ℕ × CellType) → List ℕ → List (List ℕ) → List ℕ
printed_line columns widths texts = join_by (λ t. t) (codes "  ") (padded_texts columns widths texts) ++ codes "\n"

-- the texts of the line of names
abbrev pub header_texts : List (List ℕ × CellType) → List (List ℕ)
header_texts columns = map (λ c. escaped_text c.0) columns

-- the texts of the line of a row, in a table of so many columns
abbrev pub row_texts : ℕ → List Cell → List (List ℕ)
row_texts columns row = map (λ at. cell_text (cell_or_null at row)) (range_with_len 0 columns)

-- the title: the table's name with its numbers of rows and of columns
abbrev pub title : List ℕ → ℕ → ℕ → List ℕ
title name columns rows = escaped_text name ++ (codes " (" ++ (decimal rows ++ (codes " x " ++ (decimal columns ++ codes ")\n"))))

-- a table as it is printed
abbrev pub printed : List ℕ → List (List ℕ × CellType) → List (List Cell) → List ℕ
printed name columns rows =
    let widths = column_widths columns rows in
    title name (length columns) (length rows)
    ++ (printed_line columns widths (header_texts columns)
    ++ flat_map (λ row. printed_line columns widths (row_texts (length columns) row)) rows)

-- the texts of every column are UTF-8
abbrev pub AreUtf8 : List (List ℕ × CellType) → List (List Cell) → Type 0
AreUtf8 columns rows =
    (at : ℕ) → at < length columns → (d : List ℕ × CellType) → All IsUtf8 (column_texts at (slice_index_or columns at d).0 rows)

-- the width of the column at an index, whose texts are UTF-8
abbrev pub IsWidthAt : List (List ℕ × CellType) → List (List Cell) → ℕ → ℕ → Type 0
IsWidthAt columns rows at w =
    (d : List ℕ × CellType) → (w ≡ column_width at (slice_index_or columns at d).0 rows) × All IsUtf8 (column_texts at (slice_index_or columns at d).0 rows)

-- a text with spaces beside it up to a width: behind it where it stands at the left, else before it
abbrev pub Fills : Bool → ℕ → List ℕ → List ℕ → Type 0
Fills left width text field =
    (spaces : ℕ) × (field ≡ (if left then text ++ replicate spaces 32 else replicate spaces 32 ++ text)) × (width_of field ≡ width)

-- fields of these columns and widths, each of the text at its place
abbrev pub AreFields : List (List ℕ × CellType) → List ℕ → List (List ℕ) → List (List ℕ) → Type 0
AreFields [] [] [] [] = ⊤
AreFields (c ∷ columns) (w ∷ widths) (t ∷ texts) (f ∷ fields) = Fills (is_left c.1) w t f × AreFields columns widths texts fields
AreFields columns widths texts fields = ⊥

-- a line of such fields, with two spaces between each two
abbrev pub IsLineOf : List (List ℕ × CellType) → List ℕ → List (List ℕ) → List ℕ → Type 0
IsLineOf columns widths texts line =
    (fields : List (List ℕ)) × AreFields columns widths texts fields × (line ≡ join_by (λ field. field) (codes "  ") fields)

-- the printed table of these rows: a title, and below it a line of the names and one of each row in order, under the
-- same widths; no line holds an ASCII control character, and so none holds a newline
pub record IsTableOf (columns : List (List ℕ × CellType)) (rows : List (List Cell)) (bytes : List ℕ) : Type 0 where
  pub heading : List ℕ
  pub lines : List (List ℕ)
  pub widths : List ℕ
  pub width : ℕ
  pub made_of : bytes ≡ flat_map (λ line. line ++ codes "\n") (heading ∷ lines)
  pub printable : IsTrue (list_all is_all_printable (heading ∷ lines))
  pub count : length lines ≡ length rows + 1
  pub one_width : All (λ line. width_of line ≡ width) lines
  pub names : IsLineOf columns widths (header_texts columns) (slice_index_or lines 0 [])
  pub each_row : (i : ℕ) → i < length rows → IsLineOf columns widths (row_texts (length columns) (slice_index_or rows i [])) (slice_index_or lines (i + 1) [])
