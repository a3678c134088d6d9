-- What a change of rows does to a view, told in lines of CSV: first the rows that go, each behind `-` and its place in the table before,
-- then those that come, each behind `+` and its place in the table afterwards. The first row of a table has place 0, the places rise,
-- and a changed row is both. So who takes out from the last line to the first, and then puts in from the first to the last, has the
-- table afterwards in its order.
use Rattle.std.specs.Prelude.{◌++◌, ◌+◌, ◌-◌, ℕ, List, [], ◌∷◌, Option, Some, None, codes, decimal, flat_map}
use Rattle.std.specs.FinMap.{entries}
use Rattle.std.specs.List.{count_by}
use Rattle.df_value.specs.declared.cell.Cell.{Cell}
use Rattle.df_column.specs.Bounds.{is_below}
use Rattle.df_column.specs.Changes.{Change}
use Rattle.df_column.specs.Tables.{TaggedRows}
use Rattle.df_column.specs.declared.tag.Tag.{Tag}
use Rattle.df_delta.specs.Deltas.{Changes}
use Rattle.df_export.specs.CsvTables.{rest_of_line}
use Rattle.df_print.specs.Printed.{escaped_text}
use Rattle.df_session.specs.Framed.{line_ends}

-- the place of a tag among rows: how many of them have a lesser one
abbrev pub place_of : Tag → List (Tag × List Cell) → ℕ
place_of tag rows = count_by (λ r. is_below r.0 tag) rows

-- the line of a row behind a sign and its place, with the cells as a table in CSV has them
abbrev pub row_line : List ℕ → ℕ → List Cell → List ℕ
row_line sign place row = sign ++ (decimal place ++ (rest_of_line row ++ codes "\n"))

-- the line, where there is a row
abbrev pub line_of : List ℕ → ℕ → Option (List Cell) → List ℕ
line_of sign place None = []
line_of sign place (Some row) = row_line sign place row

-- one, where there is a row
abbrev pub one_if : Option (List Cell) → ℕ
one_if None = 0
one_if (Some row) = 1

-- The lines of the rows that go, by these rows of the table afterwards. So many rows have gone at lesser tags, and so many have come
-- there: the place before is that afterwards, with those that went and without those that came.
unfoldable pub going_lines : List (Tag × List Cell) → ℕ → ℕ → List (Tag × Change (List Cell)) → List ℕ
going_lines rows gone come [] = []
going_lines rows gone come (c ∷ changes) =
    line_of (codes "-,") ((place_of c.0 rows + gone) - come) c.1.old
    ++ going_lines rows (gone + one_if c.1.old) (come + one_if c.1.new) changes

-- the lines of the rows that come, by the rows of the table afterwards
abbrev pub coming_lines : List (Tag × List Cell) → List (Tag × Change (List Cell)) → List ℕ
coming_lines rows changes = flat_map (λ c. line_of (codes "+,") (place_of c.0 rows) c.1.new) changes

-- the lines of a change, by the table afterwards
abbrev pub change_lines : TaggedRows → Changes → List ℕ
change_lines after changes = going_lines (entries after) 0 0 (entries changes) ++ coming_lines (entries after) (entries changes)

-- the line before so many lines of what the change of this number did to the view of a name
abbrev pub change_head : List ℕ → ℕ → ℕ → List ℕ
change_head name number lines =
    codes "change " ++ (escaped_text name ++ (codes " " ++ (decimal number ++ (codes " " ++ (decimal lines ++ codes "\n")))))

-- what is told of it
abbrev pub change_text : List ℕ → ℕ → List ℕ → List ℕ
change_text name number lines = change_head name number (line_ends lines) ++ lines

-- the line that is told in its place, up to the number
abbrev pub missed_begin : List ℕ → List ℕ
missed_begin name = codes "missed " ++ (escaped_text name ++ codes " ")

-- what is told in its place, where it is not known
abbrev pub missed_line : ℕ → List ℕ → List ℕ
missed_line number name = missed_begin name ++ (decimal number ++ codes " 0\n")
