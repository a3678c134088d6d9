-- What df_csv types of the records of a table whose columns a base frame may have: the rows, but that an empty text
-- is null there.
use Rattle.std.specs.Prelude.{◌≡◌, ◌==◌, ◌^◌, Bool, true, nat_lt, List, length, drop, map, if◌then◌else◌}
use Rattle.std.specs.List.{list_all}
use Rattle.df_value.specs.declared.cell.Cell.{Cell}
use Rattle.df_value.specs.declared.cell.Cell.TheVariants as cell
use Rattle.df_value.specs.Rows.{rows_fit}
use Rattle.df_value.specs.Schemas.{Columns, is_base}
use Rattle.df_csv.specs.Typed.{rows_typed}
use Rattle.df_csv.specs.declared.typed.TypedRows.TheVariants as all
use Rattle.df_csv.specs.Records.{FieldRows}
use lib.Signed.{mag}

-- a cell as it is read back
abbrev pub read_cell : Cell → Cell
read_cell cell.Null = cell.Null
read_cell (cell.Int n) = cell.Int n
read_cell (cell.Wide n) = cell.Wide n
read_cell (cell.Text t) = if length t == 0 then cell.Null else cell.Text t
read_cell (cell.Bool b) = cell.Bool b
read_cell (cell.Frac f) = cell.Frac f

-- whether a whole number of a cell is one of 64 bits, as each is in a table
abbrev pub is_int : Cell → Bool
is_int cell.Null = true
is_int (cell.Int n) = nat_lt (mag n) (2 ^ 63)
is_int (cell.Wide n) = true
is_int (cell.Text t) = true
is_int (cell.Bool b) = true
is_int (cell.Frac f) = true

-- the records that are found of a table of these columns, whose rows fit, are typed as the rows
abbrev pub TypesBack : Columns → List (List Cell) → FieldRows → Type 0
TypesBack columns rows found =
    is_base columns ≡ true → rows_fit columns rows ≡ true → list_all (list_all is_int) rows ≡ true →
    rows_typed columns 1 (drop 1 found) ≡ all.Good (map (map read_cell) rows)
