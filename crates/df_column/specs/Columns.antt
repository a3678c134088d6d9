-- The cells of a column.
use Rattle.std.specs.Prelude.{List, map}
use Rattle.df_value.specs.declared.cell.Cell.{Cell}
use Rattle.df_value.specs.declared.cell.CellType.{CellType}
use Rattle.df_value.specs.declared.cell.CellType.TheVariants as dtype
use Rattle.df_column.specs.ValueCells.{int_cell, wide_cell, text_cell, bool_cell, frac_cell}
use Rattle.df_column.specs.declared.column.Column.{Column}
use Rattle.df_column.specs.declared.column.Column.TheVariants as column

-- the cells of a column, in order
abbrev pub column_cells : Column → List Cell
column_cells (column.Int values) = map int_cell values
column_cells (column.Wide values) = map wide_cell values
column_cells (column.Text texts) = map text_cell texts
column_cells (column.Bool values) = map bool_cell values
column_cells (column.Frac values) = map frac_cell values

-- what the cells of a column are
abbrev pub dtype_of_column : Column → CellType
dtype_of_column (column.Int values) = dtype.Int
dtype_of_column (column.Wide values) = dtype.Wide
dtype_of_column (column.Text texts) = dtype.Text
dtype_of_column (column.Bool values) = dtype.Bool
dtype_of_column (column.Frac values) = dtype.Frac
