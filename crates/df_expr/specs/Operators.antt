-- The values of operators over the values of their operands, as `value_step` has them: of all operators but `fill_null`,
-- whose second operand is evaluated only where the first is null.
use Rattle.std.specs.Prelude.{not}
use Rattle.df_value.specs.declared.cell.Cell.{Cell}
use Rattle.df_value.specs.declared.cell.Cell.TheVariants as cell
use Rattle.df_value.specs.CellEq.{cell_eq}
use Rattle.df_value.specs.Order.{order_of}
use Rattle.df_expr.specs.Logic.{kleene_and, kleene_or, kleene_not}
use Rattle.df_expr.specs.Value.{arith_of, compare_of, is_null, truth_of, cell_of}
use Rattle.df_expr.specs.declared.expr.Expr.{Expr}
use Rattle.df_expr.specs.declared.expr.Expr.TheVariants as expr
use Rattle.df_expr.specs.declared.operators.Unary.{Unary}
use Rattle.df_expr.specs.declared.operators.Unary.TheVariants as unary
use Rattle.df_expr.specs.declared.operators.Binary.{Binary}
use Rattle.df_expr.specs.declared.operators.Binary.TheVariants as binary

-- the value of an operator of one operand
abbrev pub unary_value : Unary → Cell → Cell
unary_value unary.Not a = cell_of (kleene_not (truth_of a))
unary_value unary.IsNull a = cell.Bool (is_null a)
unary_value unary.IsNotNull a = cell.Bool (not (is_null a))

-- the value of an operator of two operands
abbrev pub binary_value : Binary → Cell → Cell → Cell
binary_value (binary.Arith op) a b = arith_of op a b
binary_value (binary.Compare op) a b = compare_of op (order_of a b)
binary_value binary.EqMissing a b = cell.Bool (cell_eq a b)
binary_value binary.And a b = cell_of (kleene_and (truth_of a) (truth_of b))
binary_value binary.Or a b = cell_of (kleene_or (truth_of a) (truth_of b))

-- the expression of an operator over its operands
abbrev pub unary_expr : Unary → Expr → Expr
unary_expr unary.Not a = expr.Not a
unary_expr unary.IsNull a = expr.IsNull a
unary_expr unary.IsNotNull a = expr.IsNotNull a

abbrev pub binary_expr : Binary → Expr → Expr → Expr
binary_expr (binary.Arith op) a b = expr.Arith op a b
binary_expr (binary.Compare op) a b = expr.Compare op a b
binary_expr binary.EqMissing a b = expr.EqMissing a b
binary_expr binary.And a b = expr.And a b
binary_expr binary.Or a b = expr.Or a b
