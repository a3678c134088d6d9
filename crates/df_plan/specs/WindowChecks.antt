-- The checks of rolling windows, cumulative sums and ranks. The greatest window, and which types are taken, are this
-- project's own choice.
use Rattle.std.specs.Prelude.{ℕ, ℤ, pos, Bool, ◌&&◌, int_le, List, [], ◌∷◌, Option, Some, None, Ok, Err, if◌then◌else◌}
use Rattle.df_value.specs.declared.cell.CellType.{CellType}
use Rattle.df_value.specs.declared.cell.CellType.TheVariants as dtype
use Rattle.df_value.specs.Schemas.{column_dtype}
use Rattle.df_expr.specs.declared.fault.ExprFault.TheVariants as expr
use Rattle.df_plan.specs.declared.fault.PlanFault.TheVariants as fault
use Rattle.df_ops.specs.declared.windows.RollKind.{RollKind}
use Rattle.df_ops.specs.Windows.{rolling_dtype}
use Rattle.df_value.specs.Schemas.{Columns}
use Rattle.df_plan.specs.Limits.{most_rows_of_window}
use Rattle.df_plan.specs.ItemChecks.{CheckResult, DtypeResult, key_dtype}
use Rattle.df_plan.specs.ResultSchemas.{added_columns_check}

-- a window of at least 1 row that wants at least 1 cell and at most as many as it has rows
abbrev pub is_window : ℤ → ℤ → Bool
is_window w m = int_le (pos 1) w && (int_le w (pos most_rows_of_window) && (int_le (pos 1) m && int_le m w))

-- the type of a column that must be there and be Int
abbrev pub int_column_dtype : List ℕ → Option CellType → DtypeResult
int_column_dtype name None = Err (fault.Expr (expr.NoColumn name))
int_column_dtype name (Some dtype.Int) = Ok dtype.Int
int_column_dtype name (Some t) = Err (fault.WrongType name)

-- an output of this type put among the columns, if the column that it is taken from is sound
abbrev pub output_column_check : Columns → List ℕ → CellType → DtypeResult → CheckResult
output_column_check columns output t (Ok taken) = added_columns_check columns ((output, t) ∷ [])
output_column_check columns output t (Err f) = Err f

-- the window comes before the column
abbrev pub rolling_check : Columns → List ℕ → RollKind → List ℕ → ℤ → ℤ → CheckResult
rolling_check columns output k column w m =
    if is_window w m then output_column_check columns output (rolling_dtype k) (int_column_dtype column (column_dtype column columns))
    else Err fault.BadWindow

-- of an Int column
abbrev pub cum_sum_check : Columns → List ℕ → List ℕ → CheckResult
cum_sum_check columns output column = output_column_check columns output dtype.Wide (int_column_dtype column (column_dtype column columns))

-- of a column that could be a key
abbrev pub rank_check : Columns → List ℕ → List ℕ → CheckResult
rank_check columns output column = output_column_check columns output dtype.Int (key_dtype column (column_dtype column columns))
