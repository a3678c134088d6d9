-- An expression with indices in place of names has the value of the expression.
use Rattle.std.proofs.Common.{◌≡◌, ℕ, ◌∙◌, List, ap, subst}
use Rattle.std.specs.Prelude.{Option}
use Rattle.df_value.specs.declared.cell.Cell.{Cell}
use Rattle.df_value.specs.declared.cell.CellType.{CellType}
use Rattle.df_value.specs.Rows.{cell_at}
use Rattle.df_value.specs.Schemas.{column_index}
use Rattle.df_expr.specs.Operators.{unary_value, binary_value}
use Rattle.df_expr.specs.Physical.{physical_of, physical_of_step, physical_step, physical_value, IsPhysical}
use Rattle.df_expr.specs.Value.{fill_of, value_of, value_step}
use Rattle.df_expr.specs.declared.expr.Expr.{Expr}
use Rattle.df_expr.specs.declared.expr.Expr.TheFolds.{fold-roll-Expr, ind-Expr, map-Expr}
use Rattle.df_expr.specs.declared.expr.Expr.TheOpen.{Expr-F}
use Rattle.df_expr.specs.declared.expr.Expr.TheViews.{roll-Expr}
use Rattle.df_expr.specs.declared.operators.Unary.{Unary}
use Rattle.df_expr.specs.declared.operators.Unary.TheVariants as unary
use Rattle.df_expr.specs.declared.operators.Binary.{Binary}
use Rattle.df_expr.specs.declared.operators.Binary.TheVariants as binary
use Rattle.df_expr.specs.declared.physical.PhysicalExpr.{PhysicalExpr}
use Rattle.df_expr.specs.declared.physical.PhysicalExpr.TheVariants as physical
use Rattle.df_expr.specs.declared.physical.PhysicalExpr.TheFolds.{fold-roll-PhysicalExpr}
use Rattle.df_expr.specs.declared.physical.PhysicalExpr.TheOpen.{PhysicalExpr-F}
use Rattle.df_expr.specs.declared.physical.PhysicalExpr.TheViews.{roll-PhysicalExpr}

abbrev Columns : Type 0
Columns = List (List ℕ × CellType)

abbrev HasPhysical : Columns → Expr → Type 0
HasPhysical columns e = IsPhysical e columns (physical_of columns e)

abbrev Part : Columns → Type 0
Part columns = (e : Expr) × HasPhysical columns e

-- the value of each form
column_value : (row : List Cell) (i : Option ℕ) → physical_value (physical.Column i) row ≡ cell_at i row
unfolding roll-PhysicalExpr denote.Hole.Carrier.roll
column_value row i = fold-roll-PhysicalExpr Cell (physical_step row) (PhysicalExpr-F.Column i)

literal_value : (row : List Cell) (c : Cell) → physical_value (physical.Literal c) row ≡ c
unfolding roll-PhysicalExpr denote.Hole.Carrier.roll
literal_value row c = fold-roll-PhysicalExpr Cell (physical_step row) (PhysicalExpr-F.Literal c)

one_value : (row : List Cell) (o : Unary) (p : PhysicalExpr) → physical_value (physical.Unary o p) row ≡ unary_value o (physical_value p row)
unfolding roll-PhysicalExpr denote.Hole.Carrier.roll
one_value row o p = fold-roll-PhysicalExpr Cell (physical_step row) (PhysicalExpr-F.Unary o p)

two_value :
    (row : List Cell) (o : Binary) (p q : PhysicalExpr) →
    physical_value (physical.Binary o p q) row ≡ binary_value o (physical_value p row) (physical_value q row)
unfolding roll-PhysicalExpr denote.Hole.Carrier.roll
two_value row o p q = fold-roll-PhysicalExpr Cell (physical_step row) (PhysicalExpr-F.Binary o p q)

fill_value :
    (row : List Cell) (p q : PhysicalExpr) →
    physical_value (physical.FillNull p q) row ≡ fill_of (physical_value p row) (physical_value q row)
unfolding roll-PhysicalExpr denote.Hole.Carrier.roll
fill_value row p q = fold-roll-PhysicalExpr Cell (physical_step row) (PhysicalExpr-F.FillNull p q)

-- a form of one operand, and of two
of_one :
    (columns : Columns) (row : List Cell) (o : Unary) (a : Part columns) →
    physical_value (physical.Unary o (physical_of columns a.0)) row ≡ unary_value o (value_of a.0 columns row)
of_one columns row o a = one_value row o (physical_of columns a.0) ∙ ap (λ x. unary_value o x) (a.1 row)

of_two :
    (columns : Columns) (row : List Cell) (o : Binary) (a b : Part columns) →
    physical_value (physical.Binary o (physical_of columns a.0) (physical_of columns b.0)) row
    ≡ binary_value o (value_of a.0 columns row) (value_of b.0 columns row)
of_two columns row o a b =
    two_value row o (physical_of columns a.0) (physical_of columns b.0)
    ∙ (ap (λ x. binary_value o x (physical_value (physical_of columns b.0) row)) (a.1 row)
    ∙ ap (λ y. binary_value o (value_of a.0 columns row) y) (b.1 row))

filled :
    (columns : Columns) (row : List Cell) (a b : Part columns) →
    physical_value (physical.FillNull (physical_of columns a.0) (physical_of columns b.0)) row
    ≡ fill_of (value_of a.0 columns row) (value_of b.0 columns row)
filled columns row a b =
    fill_value row (physical_of columns a.0) (physical_of columns b.0)
    ∙ (ap (λ x. fill_of x (physical_value (physical_of columns b.0) row)) (a.1 row)
    ∙ ap (λ y. fill_of (value_of a.0 columns row) y) (b.1 row))

-- one form, whose operands have their values
step : (columns : Columns) (y : Expr-F (Part columns)) → HasPhysical columns (roll-Expr (map-Expr (Part columns) Expr (λ e. e.0) y))
step columns (Expr-F.Column name) row =
    rw (fold-roll-Expr PhysicalExpr (physical_of_step columns), fold-roll-Expr Cell (value_step columns row))
    (column_value row (column_index name columns))
step columns (Expr-F.Literal c k) row =
    rw (fold-roll-Expr PhysicalExpr (physical_of_step columns), fold-roll-Expr Cell (value_step columns row))
    (literal_value row c)
step columns (Expr-F.Arith o a b) row =
    rw (fold-roll-Expr PhysicalExpr (physical_of_step columns), fold-roll-Expr Cell (value_step columns row))
    (of_two columns row (binary.Arith o) a b)
step columns (Expr-F.Compare o a b) row =
    rw (fold-roll-Expr PhysicalExpr (physical_of_step columns), fold-roll-Expr Cell (value_step columns row))
    (of_two columns row (binary.Compare o) a b)
step columns (Expr-F.EqMissing a b) row =
    rw (fold-roll-Expr PhysicalExpr (physical_of_step columns), fold-roll-Expr Cell (value_step columns row))
    (of_two columns row binary.EqMissing a b)
step columns (Expr-F.And a b) row =
    rw (fold-roll-Expr PhysicalExpr (physical_of_step columns), fold-roll-Expr Cell (value_step columns row))
    (of_two columns row binary.And a b)
step columns (Expr-F.Or a b) row =
    rw (fold-roll-Expr PhysicalExpr (physical_of_step columns), fold-roll-Expr Cell (value_step columns row))
    (of_two columns row binary.Or a b)
step columns (Expr-F.Not a) row =
    rw (fold-roll-Expr PhysicalExpr (physical_of_step columns), fold-roll-Expr Cell (value_step columns row))
    (of_one columns row unary.Not a)
step columns (Expr-F.IsNull a) row =
    rw (fold-roll-Expr PhysicalExpr (physical_of_step columns), fold-roll-Expr Cell (value_step columns row))
    (of_one columns row unary.IsNull a)
step columns (Expr-F.IsNotNull a) row =
    rw (fold-roll-Expr PhysicalExpr (physical_of_step columns), fold-roll-Expr Cell (value_step columns row))
    (of_one columns row unary.IsNotNull a)
step columns (Expr-F.FillNull a b) row =
    rw (fold-roll-Expr PhysicalExpr (physical_of_step columns), fold-roll-Expr Cell (value_step columns row))
    (filled columns row a b)

pub physical_is : (columns : Columns) (e : Expr) → HasPhysical columns e
physical_is columns = ind-Expr (HasPhysical columns) (λ x y is. subst (λ z. HasPhysical columns (roll-Expr z)) is (step columns y))
