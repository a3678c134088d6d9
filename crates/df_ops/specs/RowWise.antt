-- Operators that look at one row at a time, as `filter`, `select` and `with_columns` of the Polars Python reference:
-- every expression sees the input's row. Last, the putting of further cells, one to a row.
use Rattle.std.specs.Prelude.{◌≡◌, ◌++◌, ℕ, Bool, false, IsTrue, not, List, [], ◌∷◌, filter, map, unwrap_or}
use Rattle.std.specs.List.{zip}
use Rattle.df_value.specs.declared.cell.Cell.{Cell}
use Rattle.df_value.specs.declared.cell.Cell.TheVariants as cell
use Rattle.df_value.specs.declared.cell.CellType.{CellType}
use Rattle.df_value.specs.declared.cell.CellType.TheVariants as dtype
use Rattle.df_value.specs.Rows.{cell_at}
use Rattle.df_value.specs.Schemas.{column_index, column_dtype}
use Rattle.df_expr.specs.declared.expr.Expr.{Expr, fold-Expr}
use Rattle.df_expr.specs.declared.expr.Expr.TheOpen.{Expr-F}
use Rattle.df_expr.specs.Physical.{physical_value}
use Rattle.df_expr.specs.Value.{value_of}
use Rattle.df_expr.specs.declared.physical.PhysicalExpr.{PhysicalExpr}
use Rattle.df_ops.specs.NamedColumns.{has_column, with_columns}

-- the type of one form, from the types of its operands
abbrev pub expr_dtype_step : List (List ℕ × CellType) → Expr-F CellType → CellType
expr_dtype_step columns (Expr-F.Column name) = unwrap_or (column_dtype name columns) dtype.Int
expr_dtype_step columns (Expr-F.Literal c k) = k
expr_dtype_step columns (Expr-F.Arith op a b) = dtype.Int
expr_dtype_step columns (Expr-F.FillNull a b) = a
expr_dtype_step columns _ = dtype.Bool

-- the type that an expression has if it checks
abbrev pub expr_dtype : Expr → List (List ℕ × CellType) → CellType
expr_dtype e columns = fold-Expr CellType (expr_dtype_step columns) e

-- the column that an item gives
abbrev pub item_column : List (List ℕ × CellType) → List ℕ × Expr → List ℕ × CellType
item_column columns i = (i.0, expr_dtype i.1 columns)

-- the cell that an item gives of a row, under the item's name
abbrev pub item_cell : List (List ℕ × CellType) → List Cell → List ℕ × Expr → List ℕ × Cell
item_cell columns row i = (i.0, value_of i.1 columns row)

-- whether a cell is the truth "true"
abbrev pub is_true : Cell → Bool
is_true (cell.Bool b) = b
is_true _ = false

-- whether a row's predicate is true; null is not
unfoldable pub keeps : List (List ℕ × CellType) → Expr → List Cell → Bool
keeps columns predicate row = is_true (value_of predicate columns row)

-- the rows whose predicate is true, in their order
abbrev pub filter_rows : List (List ℕ × CellType) → Expr → List (List Cell) → List (List Cell)
filter_rows columns predicate rows = filter (keeps columns predicate) rows

-- what a filter by a condition is: a row of which it holds stays, any other goes, and the whole is the parts in their order
pub record IsFilter (Holds : List Cell → Type 0) (kept : List (List Cell) → List (List Cell)) : Type 0 where
  pub stays : (row : List Cell) → Holds row → kept (row ∷ []) ≡ row ∷ []
  pub goes : (row : List Cell) → ¬ (Holds row) → kept (row ∷ []) ≡ []
  pub of_parts : (first second : List (List Cell)) → kept (first ++ second) ≡ kept first ++ kept second

-- the values of a select's items
abbrev pub select_row : List (List ℕ × CellType) → List (List ℕ × Expr) → List Cell → List Cell
select_row columns items row = map (λ i. value_of i.1 columns row) items

-- expressions with indices in place of names, whose values in every row are those of the items
abbrev pub ArePhysical : List (List ℕ × CellType) → List (List ℕ × Expr) → List PhysicalExpr → Type 0
ArePhysical columns items made = (row : List Cell) → map (λ p. physical_value p row) made ≡ select_row columns items row

-- a row's cells under the names of their columns, null where the row has no cell for a column
abbrev pub named_cells : List (List ℕ × CellType) → List Cell → List (List ℕ × Cell)
named_cells [] row = []
named_cells (column ∷ columns) [] = (column.0, cell.Null) ∷ named_cells columns []
named_cells (column ∷ columns) (c ∷ row) = (column.0, c) ∷ named_cells columns row

-- a row in which the items' values are put among the cells as their columns are put among the columns
unfoldable pub with_columns_row : List (List ℕ × CellType) → List (List ℕ × Expr) → List Cell → List Cell
with_columns_row columns items row = map (λ c. c.1) (with_columns (named_cells columns row) (map (item_cell columns row) items))

-- the columns of such a row
abbrev pub with_columns_schema : List (List ℕ × CellType) → List (List ℕ × Expr) → List (List ℕ × CellType)
with_columns_schema columns items = with_columns columns (map (item_column columns) items)

-- every column that no item names has in the result's row the cell that it had
abbrev pub KeepsOthers : List (List ℕ × CellType) → List (List ℕ × Expr) → List Cell → List Cell → Type 0
KeepsOthers columns items row result =
    (name : List ℕ) → IsTrue (has_column name columns) → IsTrue (not (has_column name items)) →
    cell_at (column_index name (with_columns_schema columns items)) result ≡ cell_at (column_index name columns) row

-- a row with one more cell put among its own under a name
unfoldable pub with_column_row : List (List ℕ × CellType) → List ℕ → List Cell → Cell → List Cell
with_column_row columns name row c = map (λ x. x.1) (with_columns (named_cells columns row) ((name, c) ∷ []))

-- rows beside each of which stands a cell, each with that cell put among its own
abbrev pub with_column_rows : List (List ℕ × CellType) → List ℕ → List (List Cell) → List Cell → List (List Cell)
with_column_rows columns name rows cells = map (λ p. with_column_row columns name p.0 p.1) (zip rows cells)
