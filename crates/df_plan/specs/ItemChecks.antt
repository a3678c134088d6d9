-- What an item of a node's list gives: a column, or the fault of its check. Which types an operator takes and which
-- it gives are this project's own choice among those of the Polars Python reference.
use Rattle.std.specs.Prelude.{ℕ, List, [], ◌∷◌, ◌++◌, Option, Some, None, Result, Ok, Err, if◌then◌else◌}
use Rattle.df_value.specs.declared.cell.CellType.{CellType}
use Rattle.df_value.specs.declared.cell.CellType.TheVariants as dtype
use Rattle.df_value.specs.Schemas.{Columns, column_dtype}
use Rattle.df_expr.specs.declared.fault.ExprFault.TheVariants as expr
use Rattle.df_expr.specs.declared.expr.Expr.{Expr}
use Rattle.df_expr.specs.Typing.{TypeResult, names_column, expr_check}
use Rattle.df_plan.specs.declared.fault.PlanFault.{PlanFault}
use Rattle.df_plan.specs.declared.fault.PlanFault.TheVariants as fault
use Rattle.df_ops.specs.declared.agg.Agg.{Agg}
use Rattle.df_ops.specs.AggregateDtypes.{input_column, output_dtype}

-- the columns of a result, or the first fault
abbrev pub CheckResult : Type 0
CheckResult = Result Columns PlanFault

-- a type, or why there is none
abbrev pub DtypeResult : Type 0
DtypeResult = Result CellType PlanFault

-- the column of one item, or why it is refused
abbrev pub ColumnResult : Type 0
ColumnResult = Result (List ℕ × CellType) PlanFault

-- a column of this name, if it has a type
abbrev pub named_column : List ℕ → DtypeResult → ColumnResult
named_column name (Ok t) = Ok (name, t)
named_column name (Err f) = Err f

-- the type of a key, or of a column that is ranked: it must be there, and may have every type but Frac
abbrev pub key_dtype : List ℕ → Option CellType → DtypeResult
key_dtype name None = Err (fault.Expr (expr.NoColumn name))
key_dtype name (Some dtype.Frac) = Err (fault.WrongType name)
key_dtype name (Some t) = Ok t

-- a type, or a refusal of the column
abbrev pub accepted_dtype : List ℕ → Option CellType → DtypeResult
accepted_dtype name None = Err (fault.WrongType name)
accepted_dtype name (Some t) = Ok t

-- the type of an aggregate of a column, which must be there and of a type that the aggregate takes
abbrev pub column_aggregate_dtype : List ℕ → Agg → Option CellType → DtypeResult
column_aggregate_dtype name a None = Err (fault.Expr (expr.NoColumn name))
column_aggregate_dtype name a (Some t) = accepted_dtype name (output_dtype a t)

abbrev pub aggregate_dtype_over : Columns → Agg → Option (List ℕ) → DtypeResult
aggregate_dtype_over columns a None = Ok dtype.Int
aggregate_dtype_over columns a (Some name) = column_aggregate_dtype name a (column_dtype name columns)

-- the type of an aggregate
abbrev pub aggregate_dtype_check : Columns → Agg → DtypeResult
aggregate_dtype_check columns a = aggregate_dtype_over columns a (input_column a)

-- an expression's fault is a plan's fault
abbrev pub of_expr : TypeResult → DtypeResult
of_expr (Ok t) = Ok t
of_expr (Err f) = Err (fault.Expr f)

-- the type of an expression in a plan
unfoldable pub expr_dtype_check : Expr → Columns → DtypeResult
expr_dtype_check e columns = of_expr (expr_check e columns)

-- the type of a select's output: an expression that names no column is refused once it checks
unfoldable pub select_dtype_check : List ℕ → Expr → DtypeResult → DtypeResult
select_dtype_check name e (Ok t) = if names_column e then Ok t else Err (fault.ConstantColumn name)
select_dtype_check name e (Err f) = Err f

-- a key of a group-by
abbrev pub key_column_result : Columns → List ℕ → ColumnResult
key_column_result columns name = named_column name (key_dtype name (column_dtype name columns))

-- an output of a group-by
abbrev pub aggregate_column_result : Columns → List ℕ × Agg → ColumnResult
aggregate_column_result columns a = named_column a.0 (aggregate_dtype_check columns a.1)

-- an output of a select
abbrev pub select_column_result : Columns → List ℕ × Expr → ColumnResult
select_column_result columns i = named_column i.0 (select_dtype_check i.0 i.1 (expr_dtype_check i.1 columns))

-- a column that is put among those of the input
abbrev pub with_columns_column_result : Columns → List ℕ × Expr → ColumnResult
with_columns_column_result columns i = named_column i.0 (expr_dtype_check i.1 columns)

-- the next step at a column, or the fault
abbrev pub with_column : ColumnResult → (List ℕ × CellType → CheckResult) → CheckResult
with_column (Ok c) next = next c
with_column (Err f) next = Err f

-- the columns that are made already, and after them that of each item in turn; or the first item's fault
abbrev pub columns_after : {T : Type 0} → (T → ColumnResult) → Columns → List T → CheckResult
columns_after column out [] = Ok out
columns_after column out (x ∷ xs) = with_column (column x) (λ c. columns_after column (out ++ c ∷ []) xs)
