-- Bars behind whole numbers: how much of the widest bar of its column each has.
use Rattle.std.specs.Prelude.{◌++◌, ◌*◌, ◌/◌, ◌^◌, ℕ, ℤ, Bool, true, false, List, map, max, min, fold, nat_lt, codes, decimal, unsigned_abs, if◌then◌else◌}
use Rattle.std.specs.Prelude.{Some}
use Rattle.std.specs.Int.{is_negative}
use Rattle.std.specs.List.{enumerate_from, list_any}
use Rattle.df_value.specs.declared.cell.Cell.{Cell}
use Rattle.df_value.specs.declared.cell.Cell.TheVariants as cell
use Rattle.df_value.specs.declared.cell.CellType.{CellType}
use Rattle.df_value.specs.declared.cell.CellType.TheVariants as dtype
use Rattle.df_value.specs.Rows.{cell_at}
use Rattle.df_value.specs.Schemas.{Columns}
use Rattle.df_page.specs.declared.columns.Column.{Column}

-- whether the cells of a column of this type are numbers
abbrev pub is_number : CellType → Bool
is_number dtype.Int = true
is_number dtype.Wide = true
is_number dtype.Text = false
is_number dtype.Bool = false
is_number dtype.Frac = true

-- the absolute value of a whole number, 0 for every other cell
abbrev pub size_of : Cell → ℕ
size_of (cell.Int n) = unsigned_abs n
size_of (cell.Wide n) = unsigned_abs n
size_of _ = 0

-- whether a cell is a whole number below 0
abbrev pub is_below_zero : Cell → Bool
is_below_zero (cell.Int n) = is_negative n
is_below_zero (cell.Wide n) = is_negative n
is_below_zero _ = false

-- the greatest absolute value in the column at an index
abbrev pub greatest_at : ℕ → List (List Cell) → ℕ
greatest_at at rows = fold max 0 (map (λ row. size_of (cell_at (Some at) row)) rows)

-- whether a whole number there is below 0
abbrev pub is_any_negative : ℕ → List (List Cell) → Bool
is_any_negative at rows = list_any (λ row. is_below_zero (cell_at (Some at) row)) rows

-- how the column at an index is shown
abbrev pub column_at : ℕ → CellType → List (List Cell) → Column
column_at at t rows = record { is_number = is_number t; greatest = greatest_at at rows; has_negative = is_any_negative at rows }

-- how all columns are
abbrev pub columns_of : Columns → List (List Cell) → List Column
columns_of schema rows = map (λ c. column_at c.0 c.1.1 rows) (enumerate_from 0 schema)

-- a part in thousandths of a whole, rounded down
abbrev pub thousandths : ℕ → ℕ → ℕ
thousandths part whole = 1000 * part / max 1 whole

-- the width of a bar in thousandths of the widest of its column; from 2 ^ 118 on, both are counted in units of 1,024, which
-- no eye sees
abbrev pub bar_width : ℕ → ℕ → ℕ
bar_width size greatest =
    if nat_lt greatest (2 ^ 118) then thousandths (min size greatest) greatest
    else thousandths (min size greatest / 1024) (greatest / 1024)

-- where a bar begins and which way it goes: in a column with a negative number zero is in the middle
abbrev pub side : Bool → Bool → List ℕ
side false negative = codes "bar"
side true false = codes "bar positive"
side true true = codes "bar negative"

-- the tag of a number with its bar
abbrev pub bar_tag : Column → ℤ → List ℕ
bar_tag column n =
    codes "td class=\"" ++ (side column.has_negative (is_negative n)
    ++ (codes "\" style=\"--w:" ++ (decimal (bar_width (unsigned_abs n) column.greatest) ++ codes "\"")))
