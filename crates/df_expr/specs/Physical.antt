-- Expressions over the rows of one table, with indices in place of the names of its columns.
use Rattle.std.specs.Prelude.{◌≡◌, ℕ, List}
use Rattle.df_value.specs.declared.cell.Cell.{Cell}
use Rattle.df_value.specs.declared.cell.CellType.{CellType}
use Rattle.df_value.specs.Rows.{cell_at}
use Rattle.df_value.specs.Schemas.{column_index}
use Rattle.df_expr.specs.Operators.{unary_value, binary_value}
use Rattle.df_expr.specs.Value.{value_of, fill_of}
use Rattle.df_expr.specs.declared.expr.Expr.{Expr, fold-Expr}
use Rattle.df_expr.specs.declared.expr.Expr.TheOpen.{Expr-F}
use Rattle.df_expr.specs.declared.operators.Unary.TheVariants as unary
use Rattle.df_expr.specs.declared.operators.Binary.TheVariants as binary
use Rattle.df_expr.specs.declared.physical.PhysicalExpr.{PhysicalExpr, fold-PhysicalExpr}
use Rattle.df_expr.specs.declared.physical.PhysicalExpr.TheVariants as physical
use Rattle.df_expr.specs.declared.physical.PhysicalExpr.TheOpen.{PhysicalExpr-F}

-- the value of one form, from the values of its operands
abbrev pub physical_step : List Cell → PhysicalExpr-F Cell → Cell
physical_step row (PhysicalExpr-F.Column index) = cell_at index row
physical_step row (PhysicalExpr-F.Literal c) = c
physical_step row (PhysicalExpr-F.Unary operator a) = unary_value operator a
physical_step row (PhysicalExpr-F.Binary operator a b) = binary_value operator a b
physical_step row (PhysicalExpr-F.FillNull a b) = fill_of a b

-- the value in a row
abbrev pub physical_value : PhysicalExpr → List Cell → Cell
physical_value p row = fold-PhysicalExpr Cell (physical_step row) p

-- its value in every row is that of the expression over these columns
abbrev pub IsPhysical : Expr → List (List ℕ × CellType) → PhysicalExpr → Type 0
IsPhysical e columns p = (row : List Cell) → physical_value p row ≡ value_of e columns row

-- one form with an index in place of a name, from its operands
abbrev pub physical_of_step : List (List ℕ × CellType) → Expr-F PhysicalExpr → PhysicalExpr
physical_of_step columns (Expr-F.Column name) = physical.Column (column_index name columns)
physical_of_step columns (Expr-F.Literal c k) = physical.Literal c
physical_of_step columns (Expr-F.Arith op a b) = physical.Binary (binary.Arith op) a b
physical_of_step columns (Expr-F.Compare op a b) = physical.Binary (binary.Compare op) a b
physical_of_step columns (Expr-F.EqMissing a b) = physical.Binary binary.EqMissing a b
physical_of_step columns (Expr-F.And a b) = physical.Binary binary.And a b
physical_of_step columns (Expr-F.Or a b) = physical.Binary binary.Or a b
physical_of_step columns (Expr-F.Not a) = physical.Unary unary.Not a
physical_of_step columns (Expr-F.IsNull a) = physical.Unary unary.IsNull a
physical_of_step columns (Expr-F.IsNotNull a) = physical.Unary unary.IsNotNull a
physical_of_step columns (Expr-F.FillNull a b) = physical.FillNull a b

-- the expression with indices in place of names
abbrev pub physical_of : List (List ℕ × CellType) → Expr → PhysicalExpr
physical_of columns e = fold-Expr PhysicalExpr (physical_of_step columns) e
