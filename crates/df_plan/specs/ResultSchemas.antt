-- Columns that are made and are to be a schema.
use Rattle.std.specs.Prelude.{ℕ, List, [], Option, Some, None, Ok, Err, length, nat_lt, if◌then◌else◌}
use Rattle.df_plan.specs.declared.fault.PlanFault.TheVariants as fault
use Rattle.df_value.specs.Limits.{most_columns}
use Rattle.df_value.specs.Schemas.{doubled_column_after}
use Rattle.df_value.specs.Schemas.{Columns}
use Rattle.df_plan.specs.ItemChecks.{CheckResult}
use Rattle.df_ops.specs.NamedColumns.{with_columns}

-- columns whose first doubled name, if there is one, is given: that name is refused first, then a list of
-- columns that is empty or has more than 32
abbrev pub to_schema_unless : Columns → Option (List ℕ) → CheckResult
to_schema_unless columns (Some name) = Err (fault.DoubledName name)
to_schema_unless [] None = Err fault.EmptyList
to_schema_unless columns None = if nat_lt most_columns (length columns) then Err fault.TooWide else Ok columns

-- columns that are put among others: no two of them may have one name, and the result may not be too wide
abbrev pub added_columns_check : Columns → Columns → CheckResult
added_columns_check columns added = to_schema_unless (with_columns columns added) (doubled_column_after [] added)
