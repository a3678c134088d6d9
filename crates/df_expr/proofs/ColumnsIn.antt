-- No column stands in an expression exactly where the list of those that do is empty.
use Rattle.std.proofs.Common.{◌≡◌, ℕ, Bool, true, false, List, [], ◌∷◌, ◌++◌, refl, subst}
use Rattle.std.specs.Prelude.{◌↔◌, ◌||◌}
use Rattle.df_expr.specs.Typing.{columns_in, columns_in_step, names_column, names_column_step}
use Rattle.df_expr.specs.declared.expr.Expr.{Expr}
use Rattle.df_expr.specs.declared.expr.Expr.TheFolds.{fold-roll-Expr, ind-Expr, map-Expr}
use Rattle.df_expr.specs.declared.expr.Expr.TheOpen.{Expr-F}
use Rattle.df_expr.specs.declared.expr.Expr.TheViews.{roll-Expr}

abbrev NoneStands : Bool → List (List ℕ) → Type 0
NoneStands b names = (b ≡ false) ↔ (names ≡ [])

abbrev HasNone : Expr → Type 0
HasNone e = NoneStands (names_column e) (columns_in e)

abbrev Part : Type 0
Part = (e : Expr) × HasNone e

-- of two, neither has one
neither : (a b : Bool) (xs ys : List (List ℕ)) → NoneStands a xs → NoneStands b ys → NoneStands (a || b) (xs ++ ys)
neither true b [] ys h k = absurd (let e = h.1 refl in cc)
neither true b (x ∷ xs) ys h k = ((λ e. cc), (λ e. cc))
neither false b [] ys h k = k
neither false b (x ∷ xs) ys h k = absurd (let e = h.0 refl in cc)

column : (name : List ℕ) → NoneStands true (name ∷ [])
column name = ((λ e. cc), (λ e. cc))

step : (y : Expr-F Part) → HasNone (roll-Expr (map-Expr Part Expr (λ e. e.0) y))
step (Expr-F.Column name) =
    rw (fold-roll-Expr Bool names_column_step, fold-roll-Expr (List (List ℕ)) columns_in_step) (column name)
step (Expr-F.Literal c k) =
    rw (fold-roll-Expr Bool names_column_step, fold-roll-Expr (List (List ℕ)) columns_in_step) ((λ e. refl), (λ e. refl))
step (Expr-F.Arith o a b) =
    rw (fold-roll-Expr Bool names_column_step, fold-roll-Expr (List (List ℕ)) columns_in_step)
    (neither (names_column a.0) (names_column b.0) (columns_in a.0) (columns_in b.0) a.1 b.1)
step (Expr-F.Compare o a b) =
    rw (fold-roll-Expr Bool names_column_step, fold-roll-Expr (List (List ℕ)) columns_in_step)
    (neither (names_column a.0) (names_column b.0) (columns_in a.0) (columns_in b.0) a.1 b.1)
step (Expr-F.EqMissing a b) =
    rw (fold-roll-Expr Bool names_column_step, fold-roll-Expr (List (List ℕ)) columns_in_step)
    (neither (names_column a.0) (names_column b.0) (columns_in a.0) (columns_in b.0) a.1 b.1)
step (Expr-F.And a b) =
    rw (fold-roll-Expr Bool names_column_step, fold-roll-Expr (List (List ℕ)) columns_in_step)
    (neither (names_column a.0) (names_column b.0) (columns_in a.0) (columns_in b.0) a.1 b.1)
step (Expr-F.Or a b) =
    rw (fold-roll-Expr Bool names_column_step, fold-roll-Expr (List (List ℕ)) columns_in_step)
    (neither (names_column a.0) (names_column b.0) (columns_in a.0) (columns_in b.0) a.1 b.1)
step (Expr-F.FillNull a b) =
    rw (fold-roll-Expr Bool names_column_step, fold-roll-Expr (List (List ℕ)) columns_in_step)
    (neither (names_column a.0) (names_column b.0) (columns_in a.0) (columns_in b.0) a.1 b.1)
step (Expr-F.Not a) =
    rw (fold-roll-Expr Bool names_column_step, fold-roll-Expr (List (List ℕ)) columns_in_step) a.1
step (Expr-F.IsNull a) =
    rw (fold-roll-Expr Bool names_column_step, fold-roll-Expr (List (List ℕ)) columns_in_step) a.1
step (Expr-F.IsNotNull a) =
    rw (fold-roll-Expr Bool names_column_step, fold-roll-Expr (List (List ℕ)) columns_in_step) a.1

pub none_stands : (e : Expr) → HasNone e
none_stands = ind-Expr HasNone (λ x y is. subst (λ z. HasNone (roll-Expr z)) is (step y))
