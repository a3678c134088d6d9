-- Rows: lists of cells, one for each column of a schema.
use Rattle.std.specs.Prelude.{ℕ, Bool, List, Option, Some, None, slice_get, unwrap_or}
use Rattle.std.specs.Cmp.Lexicographic.{pointwise}
use Rattle.std.specs.List.{list_all}
use Rattle.df_value.specs.Cells.{fits_dtype}
use Rattle.df_value.specs.CellEq.{cell_eq}
use Rattle.df_value.specs.declared.cell.Cell.{Cell}
use Rattle.df_value.specs.declared.cell.Cell.TheVariants as cell
use Rattle.df_value.specs.declared.cell.CellType.{CellType}

-- whether a row has one cell for each column, and each is null or of its column's type
abbrev pub row_fits : List (List ℕ × CellType) → List Cell → Bool
row_fits columns row = pointwise (λ c v. fits_dtype c.1 v) columns row

-- whether all rows fit
abbrev pub rows_fit : List (List ℕ × CellType) → List (List Cell) → Bool
rows_fit columns rows = list_all (row_fits columns) rows

-- the cell at this index, null where there is none
abbrev pub cell_at : Option ℕ → List Cell → Cell
cell_at None row = cell.Null
cell_at (Some i) row = unwrap_or (slice_get row i) cell.Null

-- whether two rows are the same
abbrev pub row_eq : List Cell → List Cell → Bool
row_eq = pointwise cell_eq
