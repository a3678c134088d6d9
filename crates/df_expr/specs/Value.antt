-- The value of an expression in a row, as the Polars Python reference evaluates arithmetic, comparisons,
-- `eq_missing`, `&`, `|`, `~`, `is_null`, `is_not_null` and `fill_null`: null spreads where nothing else is
-- said. Operands of types that the check refuses have some value too, so that the definition is total.
use Rattle.std.specs.Prelude.{◌≡◌, ℕ, Bool, true, false, List, Option, Some, None, not}
use Rattle.std.specs.Ordering.{is_lt, is_le, is_gt, is_ge, is_eq}
use Rattle.std.specs.declared.cmp.Ordering.{Ordering}
use Rattle.df_value.specs.declared.cell.Cell.{Cell}
use Rattle.df_value.specs.declared.cell.Cell.TheVariants as cell
use Rattle.df_value.specs.declared.cell.CellType.{CellType}
use Rattle.df_value.specs.CellEq.{cell_eq}
use Rattle.df_value.specs.Rows.{cell_at}
use Rattle.df_value.specs.Order.{order_of}
use Rattle.df_value.specs.Schemas.{column_index}
use Rattle.df_expr.specs.Arithmetic.{unbounded_result, wrapped_i64}
use Rattle.df_expr.specs.Logic.{kleene_and, kleene_or, kleene_not}
use Rattle.df_expr.specs.declared.expr.ArithOp.{ArithOp}
use Rattle.df_expr.specs.declared.expr.CompareOp.{CompareOp}
use Rattle.df_expr.specs.declared.expr.CompareOp.TheVariants as compare
use Rattle.df_expr.specs.declared.expr.Expr.{Expr, fold-Expr}
use Rattle.df_expr.specs.declared.expr.Expr.TheOpen.{Expr-F}

-- the whole-number result, wrapped at 64 bits; null where an operand is null or no Int
abbrev pub arith_of : ArithOp → Cell → Cell → Cell
arith_of op (cell.Int a) (cell.Int b) = cell.Int (wrapped_i64 (unbounded_result op a b))
arith_of op _ _ = cell.Null

-- whether a comparison holds of two cells that stand in this order
abbrev pub holds : CompareOp → Ordering → Bool
holds compare.Eq o = is_eq o
holds compare.Ne o = not (is_eq o)
holds compare.Lt o = is_lt o
holds compare.Le o = is_le o
holds compare.Gt o = is_gt o
holds compare.Ge o = is_ge o

-- the answer of a comparison; null where a cell is null, and for cells that have no order (means, two types), which the
-- check refuses
abbrev pub compare_of : CompareOp → Option Ordering → Cell
compare_of op None = cell.Null
compare_of op (Some o) = cell.Bool (holds op o)

abbrev pub is_null : Cell → Bool
is_null cell.Null = true
is_null _ = false

-- what a cell says as a truth: none for null, and for a cell that is no Bool
abbrev pub truth_of : Cell → Option Bool
truth_of (cell.Bool b) = Some b
truth_of _ = None

-- the cell of a truth
abbrev pub cell_of : Option Bool → Cell
cell_of None = cell.Null
cell_of (Some b) = cell.Bool b

-- the first cell, or the second where the first is null
abbrev pub fill_of : Cell → Cell → Cell
fill_of cell.Null b = b
fill_of a b = a

-- the value of one form, from the values of its operands; `eq_missing` is true where the two are the same cell, null
-- being a cell like any other
abbrev pub value_step : List (List ℕ × CellType) → List Cell → Expr-F Cell → Cell
value_step schema row (Expr-F.Column name) = cell_at (column_index name schema) row
value_step schema row (Expr-F.Literal c k) = c
value_step schema row (Expr-F.Arith op a b) = arith_of op a b
value_step schema row (Expr-F.Compare op a b) = compare_of op (order_of a b)
value_step schema row (Expr-F.EqMissing a b) = cell.Bool (cell_eq a b)
value_step schema row (Expr-F.And a b) = cell_of (kleene_and (truth_of a) (truth_of b))
value_step schema row (Expr-F.Or a b) = cell_of (kleene_or (truth_of a) (truth_of b))
value_step schema row (Expr-F.Not a) = cell_of (kleene_not (truth_of a))
value_step schema row (Expr-F.IsNull a) = cell.Bool (is_null a)
value_step schema row (Expr-F.IsNotNull a) = cell.Bool (not (is_null a))
value_step schema row (Expr-F.FillNull a b) = fill_of a b

-- the value of an expression in a row
abbrev pub value_of : Expr → List (List ℕ × CellType) → List Cell → Cell
value_of e schema row = fold-Expr Cell (value_step schema row) e

-- an expression has one value, in every row under any columns
abbrev pub IsConstant : Expr → Type 0
IsConstant e =
    (columns others : List (List ℕ × CellType)) (row other : List Cell) → value_of e columns row ≡ value_of e others other
