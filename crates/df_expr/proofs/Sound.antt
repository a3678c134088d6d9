-- The value of an expression that checks is null or of its type.
use Rattle.std.proofs.Common.{◌≡◌, ℕ, Bool, true, false, zero, suc, ◌<◌, List, [], ◌∷◌, refl, subst, arith, cond}
use Rattle.std.specs.Prelude.{IsTrue, Ok, Err, Option, Some, None, ◌&&◌, not, option_map, slice_get, unwrap_or, nat_lt, length}
use Rattle.std.specs.List.{position_or_len}
use Rattle.std.specs.Str.{bytes_eq}
use Rattle.std.proofs.lemmas.List.Folds.{find_at}
use Rattle.std.proofs.lemmas.Option.{slice_get_within}
use Rattle.std.proofs.lemmas.Bool.Decides.{Decides-ltb}
use Rattle.std.specs.declared.cmp.Ordering.{Ordering}
use Rattle.std.proofs.lemmas.Grind.{common_steps}
use Rattle.df_value.specs.declared.cell.Cell.{Cell}
use Rattle.df_value.specs.declared.cell.Cell.TheVariants as cell
use Rattle.df_value.specs.declared.cell.CellType.{CellType}
use Rattle.df_value.specs.declared.cell.CellType.TheVariants as dtype
use Rattle.df_value.specs.Cells.{fits_dtype}
use Rattle.df_value.specs.CellEq.{cell_eq}
use Rattle.df_value.specs.Rows.{cell_at, row_fits}
use Rattle.df_value.specs.Schemas.{column_dtype, column_index}
use Rattle.df_expr.specs.Value.{value_of, value_step, arith_of, compare_of, cell_of, fill_of, is_null}
use Rattle.df_value.specs.Outcomes.{then_next}
use Rattle.df_expr.specs.Typing.{dtype_of, dtype_step, TypeResult, both, arith_dtype, ordered_dtype, compare_dtype, bool_dtype, bools_dtype, literal_dtype, column_dtype_check}
use Rattle.df_expr.specs.declared.expr.ArithOp.{ArithOp}
use Rattle.df_expr.specs.declared.expr.CompareOp.{CompareOp}
use Rattle.df_expr.specs.declared.expr.Expr.{Expr}
use Rattle.df_expr.specs.declared.expr.Expr.TheOpen.{Expr-F}
use Rattle.df_expr.specs.declared.expr.Expr.TheFolds.{fold-roll-Expr, ind-Expr, map-Expr}
use Rattle.df_expr.specs.declared.expr.Expr.TheViews.{roll-Expr}

-- what holds of an expression: its value is null or of its type, if it has one
abbrev pub HasValue : List (List ℕ × CellType) → List Cell → Expr → Type 0
HasValue columns row e = (t : CellType) → dtype_of e columns ≡ Ok t → IsTrue (fits_dtype t (value_of e columns row))

-- a cell is null or of the type that was found, if one was
abbrev Fits : TypeResult → Cell → Type 0
Fits answer v = (t : CellType) → answer ≡ Ok t → IsTrue (fits_dtype t v)

arith_fits : (o : ArithOp) (a b : Cell) → IsTrue (fits_dtype dtype.Int (arith_of o a b))
arith_fits o a b = grind (arith, common_steps)

both_arith : (s t : TypeResult) (o : ArithOp) (a b : Cell) → Fits (both s t arith_dtype) (arith_of o a b)
both_arith s t o a b u h = grind (arith, common_steps, arith_fits o a b)

bool_fits : (b : Option Bool) → IsTrue (fits_dtype dtype.Bool (cell_of b))
bool_fits None = refl
bool_fits (Some b) = refl

compare_fits : (o : CompareOp) (r : Option Ordering) → IsTrue (fits_dtype dtype.Bool (compare_of o r))
compare_fits o None = refl
compare_fits o (Some r) = refl

literal_fits : (c : Cell) (k : CellType) → Fits (literal_dtype c k) c
literal_fits c k t = grind (arith, common_steps)

fill_fits : (s t : TypeResult) (a b : Cell) → Fits s a → Fits t b → Fits (both s t ordered_dtype) (fill_of a b)
fill_fits s t a b f g u h = grind (arith, common_steps, f u, g u)

both_bool : (s t : TypeResult) (next : CellType → CellType → TypeResult) (v : Cell) →
    ((a b u : CellType) → next a b ≡ Ok u → u ≡ dtype.Bool) → IsTrue (fits_dtype dtype.Bool v) →
    Fits (both s t next) v
both_bool (Ok a) (Ok b) next v is_bool fits u h = let e = is_bool a b u h in rw e fits
both_bool (Ok a) (Err f) next v is_bool fits u h = cc
both_bool (Err f) t next v is_bool fits u h = cc

compare_bool : (a b u : CellType) → compare_dtype a b ≡ Ok u → u ≡ dtype.Bool
compare_bool a b u h = grind (arith, common_steps)

truths_bool : (a b u : CellType) → bools_dtype a b ≡ Ok u → u ≡ dtype.Bool
truths_bool a b u h = grind (arith, common_steps)

not_fits : (s : TypeResult) (v : Cell) → IsTrue (fits_dtype dtype.Bool v) → Fits (then_next s bool_dtype) v
not_fits s v fits u h = grind (arith, common_steps)

null_fits : (s : TypeResult) (v : Cell) → IsTrue (fits_dtype dtype.Bool v) → Fits (then_next s (λ _. Ok dtype.Bool)) v
null_fits s v fits u h = grind (arith, common_steps)

second : (a b : Bool) → IsTrue (a && b) → IsTrue b
second true b h = h
second false b h = cc

-- the cell below a column fits its type
cell_fits :
    (columns : List (List ℕ × CellType)) (row : List Cell) (i : ℕ) (c : List ℕ × CellType) →
    IsTrue (row_fits columns row) → slice_get columns i ≡ Some c →
    IsTrue (fits_dtype c.1 (unwrap_or (slice_get row i) cell.Null))
cell_fits [] row i c fits h = cc
cell_fits (d ∷ ds) [] i c fits h = cc
cell_fits (d ∷ ds) (v ∷ vs) zero c fits h = grind (arith, common_steps)
cell_fits (d ∷ ds) (v ∷ vs) (suc i) c fits h = cell_fits ds vs i c (second (fits_dtype d.1 v) (row_fits ds vs) fits) h

-- the column that was found, if there is one, gives the type
found_dtype :
    (name : List ℕ) (o : Option (List ℕ × CellType)) (t : CellType) →
    column_dtype_check name (option_map (λ c. c.1) o) ≡ Ok t → (c : List ℕ × CellType) × ((o ≡ Some c) × (c.1 ≡ t))
found_dtype name None t h = cc
found_dtype name (Some c) t h = (c, (refl, cc))

column_found :
    (columns : List (List ℕ × CellType)) (row : List Cell) → IsTrue (row_fits columns row) →
    (i : ℕ) (name : List ℕ) (t : CellType) →
    column_dtype_check name (option_map (λ c. c.1) (slice_get columns i)) ≡ Ok t →
    IsTrue (fits_dtype t (cell_at (cond (nat_lt i (length columns)) (Some i) None) row))
column_found columns row fits i name t h =
    let found = found_dtype name (slice_get columns i) t h in
    let within : i < length columns = slice_get_within columns i found.0 found.1.0 in
    let test : nat_lt i (length columns) ≡ true = (Decides-ltb i (length columns)).1 within in
    let here : IsTrue (fits_dtype found.0.1 (unwrap_or (slice_get row i) cell.Null)) = cell_fits columns row i found.0 fits found.1.0 in
    rw (test, ← found.1.1) here

pub column_fits :
    (columns : List (List ℕ × CellType)) (row : List Cell) → IsTrue (row_fits columns row) →
    (name : List ℕ) → Fits (column_dtype_check name (column_dtype name columns)) (cell_at (column_index name columns) row)
column_fits columns row fits name t h =
    column_found columns row fits (position_or_len (λ c. bytes_eq c.0 name) columns) name t
    (simp find_at at h)

-- one form, whose operands have their types
step :
    (columns : List (List ℕ × CellType)) (row : List Cell) → IsTrue (row_fits columns row) →
    (y : Expr-F ((e : Expr) × HasValue columns row e)) →
    HasValue columns row (roll-Expr (map-Expr ((e : Expr) × HasValue columns row e) Expr (λ e. e.0) y))
step columns row fits (Expr-F.Column name) =
    rw (fold-roll-Expr TypeResult (dtype_step columns), fold-roll-Expr Cell (value_step columns row)) (column_fits columns row fits name)
step columns row fits (Expr-F.Literal c k) =
    rw (fold-roll-Expr TypeResult (dtype_step columns), fold-roll-Expr Cell (value_step columns row)) (literal_fits c k)
step columns row fits (Expr-F.Arith o a b) =
    rw (fold-roll-Expr TypeResult (dtype_step columns), fold-roll-Expr Cell (value_step columns row)) (both_arith (dtype_of a.0 columns) (dtype_of b.0 columns) o (value_of a.0 columns row) (value_of b.0 columns row))
step columns row fits (Expr-F.Compare o a b) =
    rw (fold-roll-Expr TypeResult (dtype_step columns), fold-roll-Expr Cell (value_step columns row)) (both_bool (dtype_of a.0 columns) (dtype_of b.0 columns) _ _ compare_bool (compare_fits o _))
step columns row fits (Expr-F.EqMissing a b) =
    rw (fold-roll-Expr TypeResult (dtype_step columns), fold-roll-Expr Cell (value_step columns row)) (both_bool (dtype_of a.0 columns) (dtype_of b.0 columns) _ (cell.Bool (cell_eq (value_of a.0 columns row) (value_of b.0 columns row))) compare_bool refl)
step columns row fits (Expr-F.And a b) =
    rw (fold-roll-Expr TypeResult (dtype_step columns), fold-roll-Expr Cell (value_step columns row)) (both_bool (dtype_of a.0 columns) (dtype_of b.0 columns) _ _ truths_bool (bool_fits _))
step columns row fits (Expr-F.Or a b) =
    rw (fold-roll-Expr TypeResult (dtype_step columns), fold-roll-Expr Cell (value_step columns row)) (both_bool (dtype_of a.0 columns) (dtype_of b.0 columns) _ _ truths_bool (bool_fits _))
step columns row fits (Expr-F.Not a) =
    rw (fold-roll-Expr TypeResult (dtype_step columns), fold-roll-Expr Cell (value_step columns row)) (not_fits (dtype_of a.0 columns) _ (bool_fits _))
step columns row fits (Expr-F.IsNull a) =
    rw (fold-roll-Expr TypeResult (dtype_step columns), fold-roll-Expr Cell (value_step columns row)) (null_fits (dtype_of a.0 columns) (cell.Bool (is_null (value_of a.0 columns row))) refl)
step columns row fits (Expr-F.IsNotNull a) =
    rw (fold-roll-Expr TypeResult (dtype_step columns), fold-roll-Expr Cell (value_step columns row)) (null_fits (dtype_of a.0 columns) (cell.Bool (not (is_null (value_of a.0 columns row)))) refl)
step columns row fits (Expr-F.FillNull a b) =
    rw (fold-roll-Expr TypeResult (dtype_step columns), fold-roll-Expr Cell (value_step columns row)) (fill_fits (dtype_of a.0 columns) (dtype_of b.0 columns) (value_of a.0 columns row) (value_of b.0 columns row) a.1 b.1)

pub value_fits :
    (columns : List (List ℕ × CellType)) (row : List Cell) → IsTrue (row_fits columns row) →
    (e : Expr) → HasValue columns row e
value_fits columns row fits = ind-Expr (HasValue columns row) (λ x y is. subst (λ z. HasValue columns row (roll-Expr z)) is (step columns row fits y))
