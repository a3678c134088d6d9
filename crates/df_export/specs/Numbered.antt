-- Tables whose rows have numbers, as tables with one more column.
use Rattle.std.specs.Prelude.{◌++◌, ℕ, zero, suc, pos, List, [], ◌∷◌, length, codes, if◌then◌else◌}
use Rattle.std.specs.List.{list_any}
use Rattle.std.specs.Str.{bytes_eq}
use Rattle.df_value.specs.declared.cell.Cell.{Cell}
use Rattle.df_value.specs.declared.cell.Cell.TheVariants as cell
use Rattle.df_value.specs.declared.cell.CellType.TheVariants as dtype
use Rattle.df_value.specs.Schemas.{Columns}

-- this name, with at most so many underscores behind it, as many as it takes until no column has it
unfoldable pub free_name : ℕ → Columns → List ℕ → List ℕ
free_name zero columns name = name
free_name (suc n) columns name = if list_any (λ c. bytes_eq c.0 name) columns then free_name n columns (name ++ codes "_") else name

-- the name of the column of the numbers
abbrev pub number_name : Columns → List ℕ
number_name columns = free_name (length columns) columns (codes "number")

-- the columns, with that of the numbers first
abbrev pub numbered_columns : Columns → Columns
numbered_columns columns = (number_name columns, dtype.Int) ∷ columns

-- each row behind its number
unfoldable pub numbered_rows : List ℕ → List (List Cell) → List (List Cell)
numbered_rows [] rows = []
numbered_rows (n ∷ ns) [] = []
numbered_rows (n ∷ ns) (row ∷ rows) = (cell.Int (pos n) ∷ row) ∷ numbered_rows ns rows
