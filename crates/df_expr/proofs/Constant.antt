-- An expression in which no column stands has one value.
use Rattle.std.proofs.Common.{◌≡◌, ℕ, ◌∙◌, Bool, false, List, ap, refl, subst}
use Rattle.std.specs.Prelude.{◌||◌, not}
use Rattle.df_value.specs.CellEq.{cell_eq}
use Rattle.df_value.specs.Choices.{neither}
use Rattle.df_value.specs.Order.{order_of}
use Rattle.df_value.specs.declared.cell.Cell.{Cell}
use Rattle.df_value.specs.declared.cell.Cell.TheVariants as cell
use Rattle.df_value.specs.declared.cell.CellType.{CellType}
use Rattle.df_expr.specs.Logic.{kleene_and, kleene_or, kleene_not}
use Rattle.df_expr.specs.Typing.{names_column, names_column_step}
use Rattle.df_expr.specs.Value.{arith_of, cell_of, compare_of, fill_of, is_null, truth_of, value_of, value_step, IsConstant}
use Rattle.df_expr.specs.declared.expr.Expr.{Expr}
use Rattle.df_expr.specs.declared.expr.Expr.TheFolds.{fold-roll-Expr, ind-Expr, map-Expr}
use Rattle.df_expr.specs.declared.expr.Expr.TheOpen.{Expr-F}
use Rattle.df_expr.specs.declared.expr.Expr.TheViews.{roll-Expr}

abbrev OneValue : Expr → Type 0
OneValue e = names_column e ≡ false → IsConstant e

abbrev Part : Type 0
Part = (e : Expr) × OneValue e

abbrev Columns : Type 0
Columns = List (List ℕ × CellType)

-- what is made of the value of a part, or of the values of two
of_part :
    (f : Cell → Cell) (a : Part) → names_column a.0 ≡ false → (columns others : Columns) (row other : List Cell) →
    f (value_of a.0 columns row) ≡ f (value_of a.0 others other)
of_part f a h columns others row other = ap f (a.1 h columns others row other)

of_parts :
    (f : Cell → Cell → Cell) (a b : Part) → (names_column a.0 || names_column b.0) ≡ false → (columns others : Columns) (row other : List Cell) →
    f (value_of a.0 columns row) (value_of b.0 columns row) ≡ f (value_of a.0 others other) (value_of b.0 others other)
of_parts f a b h columns others row other =
    let parts = neither (names_column a.0) (names_column b.0) h in
    ap (λ x. f x (value_of b.0 columns row)) (a.1 parts.0 columns others row other)
    ∙ ap (λ y. f (value_of a.0 others other) y) (b.1 parts.1 columns others row other)

-- one form, whose operands have one value where no column stands in them
step : (y : Expr-F Part) → OneValue (roll-Expr (map-Expr Part Expr (λ e. e.0) y))
step (Expr-F.Column name) h columns others row other =
    let none = rw (fold-roll-Expr Bool names_column_step) at h in
    cc
step (Expr-F.Literal c k) h columns others row other =
    rw (fold-roll-Expr Cell (value_step columns row), fold-roll-Expr Cell (value_step others other)) refl
step (Expr-F.Arith o a b) h columns others row other =
    let none = rw (fold-roll-Expr Bool names_column_step) at h in
    rw (fold-roll-Expr Cell (value_step columns row), fold-roll-Expr Cell (value_step others other))
    (of_parts (λ x y. arith_of o x y) a b none columns others row other)
step (Expr-F.Compare o a b) h columns others row other =
    let none = rw (fold-roll-Expr Bool names_column_step) at h in
    rw (fold-roll-Expr Cell (value_step columns row), fold-roll-Expr Cell (value_step others other))
    (of_parts (λ x y. compare_of o (order_of x y)) a b none columns others row other)
step (Expr-F.EqMissing a b) h columns others row other =
    let none = rw (fold-roll-Expr Bool names_column_step) at h in
    rw (fold-roll-Expr Cell (value_step columns row), fold-roll-Expr Cell (value_step others other))
    (of_parts (λ x y. cell.Bool (cell_eq x y)) a b none columns others row other)
step (Expr-F.And a b) h columns others row other =
    let none = rw (fold-roll-Expr Bool names_column_step) at h in
    rw (fold-roll-Expr Cell (value_step columns row), fold-roll-Expr Cell (value_step others other))
    (of_parts (λ x y. cell_of (kleene_and (truth_of x) (truth_of y))) a b none columns others row other)
step (Expr-F.Or a b) h columns others row other =
    let none = rw (fold-roll-Expr Bool names_column_step) at h in
    rw (fold-roll-Expr Cell (value_step columns row), fold-roll-Expr Cell (value_step others other))
    (of_parts (λ x y. cell_of (kleene_or (truth_of x) (truth_of y))) a b none columns others row other)
step (Expr-F.FillNull a b) h columns others row other =
    let none = rw (fold-roll-Expr Bool names_column_step) at h in
    rw (fold-roll-Expr Cell (value_step columns row), fold-roll-Expr Cell (value_step others other))
    (of_parts (λ x y. fill_of x y) a b none columns others row other)
step (Expr-F.Not a) h columns others row other =
    let none = rw (fold-roll-Expr Bool names_column_step) at h in
    rw (fold-roll-Expr Cell (value_step columns row), fold-roll-Expr Cell (value_step others other))
    (of_part (λ x. cell_of (kleene_not (truth_of x))) a none columns others row other)
step (Expr-F.IsNull a) h columns others row other =
    let none = rw (fold-roll-Expr Bool names_column_step) at h in
    rw (fold-roll-Expr Cell (value_step columns row), fold-roll-Expr Cell (value_step others other))
    (of_part (λ x. cell.Bool (is_null x)) a none columns others row other)
step (Expr-F.IsNotNull a) h columns others row other =
    let none = rw (fold-roll-Expr Bool names_column_step) at h in
    rw (fold-roll-Expr Cell (value_step columns row), fold-roll-Expr Cell (value_step others other))
    (of_part (λ x. cell.Bool (not (is_null x))) a none columns others row other)

pub constant : (e : Expr) → OneValue e
constant = ind-Expr OneValue (λ x y is. subst (λ z. OneValue (roll-Expr z)) is (step y))
