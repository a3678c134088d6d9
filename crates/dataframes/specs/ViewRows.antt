-- The cells of a row by the names of their columns.
use Rattle.std.specs.Prelude.{ℕ, ℤ, List, Option, Some, None, option_and_then, slice_get}
use Rattle.df_value.specs.Schemas.{column_index}
use Rattle.df_value.specs.declared.cell.Cell.{Cell}
use Rattle.df_value.specs.declared.cell.Cell.TheVariants.{Int, Text, Wide}
use Rattle.df_value.specs.declared.cell.CellType.{CellType}

-- the cell in the column of this name
abbrev pub cell_named : List (List ℕ × CellType) → List Cell → List ℕ → Option Cell
cell_named columns row name = option_and_then (λ i. slice_get row i) (column_index name columns)

-- the whole number of a cell, where it is one
abbrev pub int_of : Option Cell → Option ℤ
int_of (Some (Int n)) = Some n
int_of (Some (Wide n)) = Some n
int_of cell = None

-- the text of a cell, where it is one
abbrev pub text_of : Option Cell → Option (List ℕ)
text_of (Some (Text t)) = Some t
text_of cell = None
