-- The check of a join: the columns of its result, or the first fault.
use Rattle.std.specs.Prelude.{ℕ, List, [], ◌∷◌, Option, Some, None, Ok, Err}
use Rattle.df_value.specs.declared.cell.CellType.{CellType}
use Rattle.df_value.specs.declared.cell.CellType.TheVariants as dtype
use Rattle.df_value.specs.Names.{doubled_name_after}
use Rattle.df_value.specs.Schemas.{column_dtype, doubled_column_after}
use Rattle.df_expr.specs.declared.fault.ExprFault.TheVariants as expr
use Rattle.df_plan.specs.declared.fault.PlanFault.{PlanFault}
use Rattle.df_plan.specs.declared.fault.PlanFault.TheVariants as fault
use Rattle.df_value.specs.Schemas.{Columns}
use Rattle.df_plan.specs.ItemChecks.{CheckResult, DtypeResult}
use Rattle.df_plan.specs.ResultSchemas.{to_schema_unless}
use Rattle.df_ops.specs.Joins.{columns_of_join}

-- the type of a key: its column must be there on the left and on the right, of one type, which may be every one but
-- Frac
abbrev pub join_key_dtype : List ℕ → Option CellType → Option CellType → DtypeResult
join_key_dtype name None right = Err (fault.Expr (expr.NoColumn name))
join_key_dtype name (Some t) None = Err (fault.Expr (expr.NoColumn name))
join_key_dtype name (Some dtype.Int) (Some dtype.Int) = Ok dtype.Int
join_key_dtype name (Some dtype.Wide) (Some dtype.Wide) = Ok dtype.Wide
join_key_dtype name (Some dtype.Text) (Some dtype.Text) = Ok dtype.Text
join_key_dtype name (Some dtype.Bool) (Some dtype.Bool) = Ok dtype.Bool
join_key_dtype name (Some t) (Some u) = Err (fault.WrongType name)

abbrev pub join_key : Columns → Columns → List ℕ → DtypeResult
join_key left right name = join_key_dtype name (column_dtype name left) (column_dtype name right)

abbrev pub fault_or : DtypeResult → Option PlanFault → Option PlanFault
fault_or (Ok t) later = later
fault_or (Err f) later = Some f

-- the first fault of the keys, in their order
abbrev pub keys_fault : Columns → Columns → List (List ℕ) → Option PlanFault
keys_fault left right [] = None
keys_fault left right (k ∷ ks) = fault_or (join_key left right k) (keys_fault left right ks)

-- of two names that stand twice, the first one
abbrev pub either_name : Option (List ℕ) → Option (List ℕ) → Option (List ℕ)
either_name None second = second
either_name (Some name) second = Some name

-- the columns of a join whose keys are sound
abbrev pub join_schema : Columns → List (List ℕ) → CheckResult
join_schema columns keys = to_schema_unless columns (either_name (doubled_name_after (λ k. k) [] keys) (doubled_column_after [] columns))

abbrev pub fault_first : Option PlanFault → CheckResult → CheckResult
fault_first None checked = checked
fault_first (Some f) checked = Err f

-- no keys are refused first, then the first key that is not sound, then the first key that stands earlier, then the
-- first name of the result that stands earlier, then a result that is too wide
abbrev pub join_check : Columns → Columns → List (List ℕ) → CheckResult
join_check left right [] = Err fault.EmptyList
join_check left right keys =
    fault_first (keys_fault left right keys) (join_schema (columns_of_join left right keys) keys)
