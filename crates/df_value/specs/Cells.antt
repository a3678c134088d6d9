-- Cells and the types of columns: the values of a table, as the Polars Python reference has them for
-- integers, strings and Booleans, with a null that belongs to every type.
use Rattle.std.specs.Prelude.{Bool, true, false}
use Rattle.df_value.specs.declared.cell.Cell.{Cell}
use Rattle.df_value.specs.declared.cell.Cell.TheVariants as cell
use Rattle.df_value.specs.declared.cell.CellType.{CellType}
use Rattle.df_value.specs.declared.cell.CellType.TheVariants as dtype

-- whether a cell is null or of this type
abbrev pub fits_dtype : CellType → Cell → Bool
fits_dtype t cell.Null = true
fits_dtype dtype.Int (cell.Int n) = true
fits_dtype dtype.Wide (cell.Wide n) = true
fits_dtype dtype.Text (cell.Text t) = true
fits_dtype dtype.Bool (cell.Bool b) = true
fits_dtype dtype.Frac (cell.Frac f) = true
fits_dtype t _ = false

-- whether a cell is a text, so that a copy of it takes memory
abbrev pub is_text : Cell → Bool
is_text (cell.Text t) = true
is_text _ = false
