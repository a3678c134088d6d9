-- The types of expressions, as the Polars Python reference types them where this project allows the
-- operands, and the order in which a check finds faults.
use Rattle.std.specs.Prelude.{◌≡◌, ◌+◌, ◌||◌, ◌++◌, ℕ, Bool, true, false, List, [], ◌∷◌, Option, Some, None, Result, Ok, Err, max, nat_lt, if◌then◌else◌}
use Rattle.df_value.specs.Outcomes.{then_next}
use Rattle.df_value.specs.declared.cell.Cell.{Cell}
use Rattle.df_value.specs.declared.cell.Cell.TheVariants as cell
use Rattle.df_value.specs.declared.cell.CellType.{CellType}
use Rattle.df_value.specs.declared.cell.CellType.TheVariants as dtype
use Rattle.df_value.specs.Schemas.{column_dtype}
use Rattle.df_expr.specs.Limits.{most_expr_levels}
use Rattle.df_expr.specs.declared.fault.ExprFault.{ExprFault}
use Rattle.df_expr.specs.declared.fault.ExprFault.TheVariants as fault
use Rattle.df_expr.specs.declared.expr.Expr.{Expr, fold-Expr}
use Rattle.df_expr.specs.declared.expr.Expr.TheOpen.{Expr-F}

-- a type, or the first fault
abbrev pub TypeResult : Type 0
TypeResult = Result CellType ExprFault

-- a column of the schema has its type there
abbrev pub column_dtype_check : List ℕ → Option CellType → TypeResult
column_dtype_check name None = Err (fault.NoColumn name)
column_dtype_check name (Some t) = Ok t

-- a literal is null or a cell of its type, which is Int, Text or Bool
abbrev pub literal_dtype : Cell → CellType → TypeResult
literal_dtype cell.Null dtype.Int = Ok dtype.Int
literal_dtype cell.Null dtype.Text = Ok dtype.Text
literal_dtype cell.Null dtype.Bool = Ok dtype.Bool
literal_dtype (cell.Int n) dtype.Int = Ok dtype.Int
literal_dtype (cell.Text t) dtype.Text = Ok dtype.Text
literal_dtype (cell.Bool b) dtype.Bool = Ok dtype.Bool
literal_dtype _ _ = Err fault.WrongType

-- two Ints give an Int
abbrev pub arith_dtype : CellType → CellType → TypeResult
arith_dtype dtype.Int dtype.Int = Ok dtype.Int
arith_dtype _ _ = Err fault.WrongType

-- two operands of one ordered type have that type
abbrev pub ordered_dtype : CellType → CellType → TypeResult
ordered_dtype dtype.Int dtype.Int = Ok dtype.Int
ordered_dtype dtype.Wide dtype.Wide = Ok dtype.Wide
ordered_dtype dtype.Text dtype.Text = Ok dtype.Text
ordered_dtype dtype.Bool dtype.Bool = Ok dtype.Bool
ordered_dtype _ _ = Err fault.WrongType

-- a truth is a Bool
abbrev pub bool_dtype : CellType → TypeResult
bool_dtype dtype.Bool = Ok dtype.Bool
bool_dtype _ = Err fault.WrongType

-- the left operand's fault comes first, then the right one's, then the node's own
abbrev pub both : TypeResult → TypeResult → (CellType → CellType → TypeResult) → TypeResult
both a b next = then_next a (λ s. then_next b (next s))

-- two operands that compare
abbrev pub compare_dtype : CellType → CellType → TypeResult
compare_dtype s t = then_next (ordered_dtype s t) (λ _. Ok dtype.Bool)

-- two truths
abbrev pub bools_dtype : CellType → CellType → TypeResult
bools_dtype s t = then_next (bool_dtype s) (λ _. bool_dtype t)

-- the type of one form, from the types of its operands
abbrev pub dtype_step : List (List ℕ × CellType) → Expr-F TypeResult → TypeResult
dtype_step schema (Expr-F.Column name) = column_dtype_check name (column_dtype name schema)
dtype_step schema (Expr-F.Literal c k) = literal_dtype c k
dtype_step schema (Expr-F.Arith op a b) = both a b arith_dtype
dtype_step schema (Expr-F.Compare op a b) = both a b compare_dtype
dtype_step schema (Expr-F.EqMissing a b) = both a b compare_dtype
dtype_step schema (Expr-F.And a b) = both a b bools_dtype
dtype_step schema (Expr-F.Or a b) = both a b bools_dtype
dtype_step schema (Expr-F.Not a) = then_next a bool_dtype
dtype_step schema (Expr-F.IsNull a) = then_next a (λ _. Ok dtype.Bool)
dtype_step schema (Expr-F.IsNotNull a) = then_next a (λ _. Ok dtype.Bool)
dtype_step schema (Expr-F.FillNull a b) = both a b ordered_dtype

-- the type of an expression, or the first fault of a walk from left to right, operands before their node
abbrev pub dtype_of : Expr → List (List ℕ × CellType) → TypeResult
dtype_of e schema = fold-Expr TypeResult (dtype_step schema) e

abbrev pub expr_levels_step : Expr-F ℕ → ℕ
expr_levels_step (Expr-F.Column name) = 1
expr_levels_step (Expr-F.Literal c k) = 1
expr_levels_step (Expr-F.Arith op a b) = 1 + max a b
expr_levels_step (Expr-F.Compare op a b) = 1 + max a b
expr_levels_step (Expr-F.EqMissing a b) = 1 + max a b
expr_levels_step (Expr-F.And a b) = 1 + max a b
expr_levels_step (Expr-F.Or a b) = 1 + max a b
expr_levels_step (Expr-F.Not a) = 1 + a
expr_levels_step (Expr-F.IsNull a) = 1 + a
expr_levels_step (Expr-F.IsNotNull a) = 1 + a
expr_levels_step (Expr-F.FillNull a b) = 1 + max a b

-- the nodes on the longest path
abbrev pub expr_levels : Expr → ℕ
expr_levels e = fold-Expr ℕ expr_levels_step e

-- the answer of a check: too many levels come before all else
abbrev pub expr_check : Expr → List (List ℕ × CellType) → TypeResult
expr_check e schema = if nat_lt most_expr_levels (expr_levels e) then Err fault.TooDeep else dtype_of e schema

abbrev pub names_column_step : Expr-F Bool → Bool
names_column_step (Expr-F.Column name) = true
names_column_step (Expr-F.Literal c k) = false
names_column_step (Expr-F.Arith op a b) = a || b
names_column_step (Expr-F.Compare op a b) = a || b
names_column_step (Expr-F.EqMissing a b) = a || b
names_column_step (Expr-F.And a b) = a || b
names_column_step (Expr-F.Or a b) = a || b
names_column_step (Expr-F.Not a) = a
names_column_step (Expr-F.IsNull a) = a
names_column_step (Expr-F.IsNotNull a) = a
names_column_step (Expr-F.FillNull a b) = a || b

-- whether a column stands in an expression
abbrev pub names_column : Expr → Bool
names_column e = fold-Expr Bool names_column_step e

abbrev pub columns_in_step : Expr-F (List (List ℕ)) → List (List ℕ)
columns_in_step (Expr-F.Column name) = name ∷ []
columns_in_step (Expr-F.Literal c k) = []
columns_in_step (Expr-F.Arith op a b) = a ++ b
columns_in_step (Expr-F.Compare op a b) = a ++ b
columns_in_step (Expr-F.EqMissing a b) = a ++ b
columns_in_step (Expr-F.And a b) = a ++ b
columns_in_step (Expr-F.Or a b) = a ++ b
columns_in_step (Expr-F.Not a) = a
columns_in_step (Expr-F.IsNull a) = a
columns_in_step (Expr-F.IsNotNull a) = a
columns_in_step (Expr-F.FillNull a b) = a ++ b

-- the names of the columns that stand in an expression, from left to right
abbrev pub columns_in : Expr → List (List ℕ)
columns_in e = fold-Expr (List (List ℕ)) columns_in_step e

-- The call gave the answer that is wanted, or there was no memory for the name of a missing column.
abbrev pub AnswersType : TypeResult → TypeResult → Type 0
AnswersType want (Ok t) = want ≡ Ok t
AnswersType want (Err fault.Memory) = (name : List ℕ) × (want ≡ Err (fault.NoColumn name))
AnswersType want (Err (fault.NoColumn name)) = want ≡ Err (fault.NoColumn name)
AnswersType want (Err fault.WrongType) = want ≡ Err fault.WrongType
AnswersType want (Err fault.TooDeep) = want ≡ Err fault.TooDeep
