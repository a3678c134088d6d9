-- An expression that checks has the type that is read off it.
use Rattle.std.proofs.Common.{◌≡◌, ℕ, ◌∙◌, Bool, true, false, cond, List, refl, ap, sym, subst, arith}
use Rattle.std.proofs.lemmas.Grind.{common_steps}
use Rattle.std.specs.Prelude.{Ok, Err, Option, Some, None, unwrap_or, nat_lt}
use Rattle.df_value.specs.declared.cell.Cell.{Cell}
use Rattle.df_value.specs.declared.cell.CellType.{CellType}
use Rattle.df_value.specs.declared.cell.CellType.TheVariants as dtype
use Rattle.df_value.specs.Schemas.{column_dtype}
use Rattle.df_expr.specs.declared.fault.ExprFault.{ExprFault}
use Rattle.df_expr.specs.declared.fault.ExprFault.TheVariants as expr
use Rattle.df_expr.specs.declared.expr.Expr.{Expr}
use Rattle.df_expr.specs.declared.expr.Expr.TheOpen.{Expr-F}
use Rattle.df_expr.specs.declared.expr.Expr.TheFolds.{fold-roll-Expr, ind-Expr, map-Expr}
use Rattle.df_expr.specs.declared.expr.Expr.TheViews.{roll-Expr}
use Rattle.df_value.specs.Outcomes.{then_next}
use Rattle.df_expr.specs.Typing.{TypeResult, dtype_of, dtype_step, column_dtype_check, literal_dtype, both, arith_dtype, ordered_dtype, compare_dtype, bool_dtype, bools_dtype, expr_levels, names_column, expr_check}
use Rattle.df_ops.specs.RowWise.{expr_dtype, expr_dtype_step, item_column}
use Rattle.df_value.specs.Schemas.{Columns}
use Rattle.df_plan.specs.ItemChecks.{DtypeResult, named_column, of_expr, expr_dtype_check, select_dtype_check, select_column_result, with_columns_column_result}
use Rattle.df_plan.specs.declared.fault.PlanFault.{PlanFault}
use Rattle.df_plan.specs.declared.fault.PlanFault.TheVariants as fault

-- the type that was found, if one was, is this one
abbrev Gives : TypeResult → CellType → Type 0
Gives answer k = (t : CellType) → answer ≡ Ok t → k ≡ t

column_gives : (name : List ℕ) (o : Option CellType) → Gives (column_dtype_check name o) (unwrap_or o dtype.Int)
column_gives name None t h = cc
column_gives name (Some k) t h = cc

literal_gives : (c : Cell) (k : CellType) → Gives (literal_dtype c k) k
literal_gives c k t h = grind (arith, common_steps)

arith_gives : (a b : TypeResult) → Gives (both a b arith_dtype) dtype.Int
arith_gives a b t h = grind (arith, common_steps)

compare_gives : (a b : TypeResult) → Gives (both a b compare_dtype) dtype.Bool
compare_gives (Ok s) (Ok u) t h = grind (arith, common_steps)
compare_gives (Ok s) (Err f) t h = cc
compare_gives (Err f) b t h = cc

truths_give : (a b : TypeResult) → Gives (both a b bools_dtype) dtype.Bool
truths_give (Ok s) (Ok u) t h = grind (arith, common_steps)
truths_give (Ok s) (Err f) t h = cc
truths_give (Err f) b t h = cc

not_gives : (a : TypeResult) → Gives (then_next a bool_dtype) dtype.Bool
not_gives a t h = grind (arith, common_steps)

null_gives : (a : TypeResult) → Gives (then_next a (λ _. Ok dtype.Bool)) dtype.Bool
null_gives a t h = grind (arith, common_steps)

ordered_first : (a b t : CellType) → ordered_dtype a b ≡ Ok t → a ≡ t
ordered_first a b t h = grind (arith, common_steps)

fill_gives : (a b : TypeResult) (k : CellType) → Gives a k → Gives (both a b ordered_dtype) k
fill_gives (Ok s) (Ok u) k gives t h = gives s refl ∙ ordered_first s u t h
fill_gives (Ok s) (Err f) k gives t h = cc
fill_gives (Err f) b k gives t h = cc

abbrev Given : Columns → Expr → Type 0
Given columns e = Gives (dtype_of e columns) (expr_dtype e columns)

-- one form, whose operands give the types that are read off them
step :
    (columns : Columns) (y : Expr-F ((e : Expr) × Given columns e)) →
    Given columns (roll-Expr (map-Expr ((e : Expr) × Given columns e) Expr (λ e. e.0) y))
step columns (Expr-F.Column name) =
    rw (fold-roll-Expr TypeResult (dtype_step columns), fold-roll-Expr CellType (expr_dtype_step columns)) (column_gives name (column_dtype name columns))
step columns (Expr-F.Literal c k) =
    rw (fold-roll-Expr TypeResult (dtype_step columns), fold-roll-Expr CellType (expr_dtype_step columns)) (literal_gives c k)
step columns (Expr-F.Arith o a b) =
    rw (fold-roll-Expr TypeResult (dtype_step columns), fold-roll-Expr CellType (expr_dtype_step columns)) (arith_gives (dtype_of a.0 columns) (dtype_of b.0 columns))
step columns (Expr-F.Compare o a b) =
    rw (fold-roll-Expr TypeResult (dtype_step columns), fold-roll-Expr CellType (expr_dtype_step columns)) (compare_gives (dtype_of a.0 columns) (dtype_of b.0 columns))
step columns (Expr-F.EqMissing a b) =
    rw (fold-roll-Expr TypeResult (dtype_step columns), fold-roll-Expr CellType (expr_dtype_step columns)) (compare_gives (dtype_of a.0 columns) (dtype_of b.0 columns))
step columns (Expr-F.And a b) =
    rw (fold-roll-Expr TypeResult (dtype_step columns), fold-roll-Expr CellType (expr_dtype_step columns)) (truths_give (dtype_of a.0 columns) (dtype_of b.0 columns))
step columns (Expr-F.Or a b) =
    rw (fold-roll-Expr TypeResult (dtype_step columns), fold-roll-Expr CellType (expr_dtype_step columns)) (truths_give (dtype_of a.0 columns) (dtype_of b.0 columns))
step columns (Expr-F.Not a) =
    rw (fold-roll-Expr TypeResult (dtype_step columns), fold-roll-Expr CellType (expr_dtype_step columns)) (not_gives (dtype_of a.0 columns))
step columns (Expr-F.IsNull a) =
    rw (fold-roll-Expr TypeResult (dtype_step columns), fold-roll-Expr CellType (expr_dtype_step columns)) (null_gives (dtype_of a.0 columns))
step columns (Expr-F.IsNotNull a) =
    rw (fold-roll-Expr TypeResult (dtype_step columns), fold-roll-Expr CellType (expr_dtype_step columns)) (null_gives (dtype_of a.0 columns))
step columns (Expr-F.FillNull a b) =
    rw (fold-roll-Expr TypeResult (dtype_step columns), fold-roll-Expr CellType (expr_dtype_step columns)) (fill_gives (dtype_of a.0 columns) (dtype_of b.0 columns) (expr_dtype a.0 columns) a.1)

kind_given : (columns : Columns) (e : Expr) → Given columns e
kind_given columns = ind-Expr (Given columns) (λ x y is. subst (λ z. Given columns (roll-Expr z)) is (step columns y))

-- the item's expression checks, and has the type that is read off it
abbrev pub HasKind : Columns → List ℕ × Expr → Type 0
HasKind columns i = dtype_of i.1 columns ≡ Ok (expr_dtype i.1 columns)

of_ok : (a : TypeResult) (t : CellType) → of_expr a ≡ Ok t → a ≡ Ok t
of_ok (Ok s) t h = cc
of_ok (Err f) t h = cc

not_deep : (b : Bool) (a : TypeResult) (f : ExprFault) (t : CellType) → cond b (Err f) a ≡ Ok t → a ≡ Ok t
not_deep true a f t h = cc
not_deep false a f t h = h

expr_found : (e : Expr) (columns : Columns) (t : CellType) → expr_dtype_check e columns ≡ Ok t → dtype_of e columns ≡ Ok t
unfolding expr_dtype_check
expr_found e columns t h =
    not_deep (nat_lt 32 (expr_levels e)) (dtype_of e columns) expr.TooDeep t (of_ok (expr_check e columns) t h)

taken : (b : Bool) (s t : CellType) (f : PlanFault) → cond {A = DtypeResult} b (Ok s) (Err f) ≡ Ok t → s ≡ t
taken true s t f h = cc
taken false s t f h = cc

output_ok : (name : List ℕ) (e : Expr) (k : DtypeResult) (t : CellType) → select_dtype_check name e k ≡ Ok t → k ≡ Ok t
unfolding select_dtype_check
output_ok name e (Ok s) t h = ap Ok (taken (names_column e) s t (fault.ConstantColumn name) h)
output_ok name e (Err f) t h = cc

pub named_ok : (name : List ℕ) (k : DtypeResult) (c : List ℕ × CellType) → named_column name k ≡ Ok c → (t : CellType) × ((k ≡ Ok t) × (c ≡ (name, t)))
named_ok name (Ok t) c h = (t, (refl, cc))
named_ok name (Err f) c h = cc

item_found :
    (columns : Columns) (i : List ℕ × Expr) (c : List ℕ × CellType) (t : CellType) → expr_dtype_check i.1 columns ≡ Ok t → c ≡ (i.0, t) →
    (c ≡ item_column columns i) × HasKind columns i
item_found columns i c t h e =
    let is : dtype_of i.1 columns ≡ Ok t = expr_found i.1 columns t h in
    let given : t ≡ expr_dtype i.1 columns = sym (kind_given columns i.1 t is) in
    (e ∙ ap (λ (t : CellType). (i.0, t)) given, is ∙ ap Ok given)

pub output_found :
    (columns : Columns) (i : List ℕ × Expr) (c : List ℕ × CellType) → select_column_result columns i ≡ Ok c →
    (c ≡ item_column columns i) × HasKind columns i
output_found columns i c h =
    let typed = named_ok i.0 (select_dtype_check i.0 i.1 (expr_dtype_check i.1 columns)) c h in
    item_found columns i c typed.0 (output_ok i.0 i.1 (expr_dtype_check i.1 columns) typed.0 typed.1.0) typed.1.1

pub added_found :
    (columns : Columns) (i : List ℕ × Expr) (c : List ℕ × CellType) → with_columns_column_result columns i ≡ Ok c →
    (c ≡ item_column columns i) × HasKind columns i
added_found columns i c h =
    let typed = named_ok i.0 (expr_dtype_check i.1 columns) c h in
    item_found columns i c typed.0 typed.1.0 typed.1.1
