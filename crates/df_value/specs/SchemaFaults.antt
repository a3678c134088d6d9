-- Why columns are no schema.
use Rattle.std.specs.Prelude.{ℕ, List, [], length, Option, Some, None, nat_lt, is_some, if◌then◌else◌}
use Rattle.df_value.specs.declared.cell.CellType.{CellType}
use Rattle.df_value.specs.declared.schema.SchemaFault.{SchemaFault}
use Rattle.df_value.specs.declared.schema.SchemaFault.TheVariants as fault
use Rattle.df_value.specs.Limits.{most_columns}
use Rattle.df_value.specs.Schemas.{doubled_column_after}

-- why a list of columns is no schema: the first reason that fits
abbrev pub schema_fault : List (List ℕ × CellType) → Option SchemaFault
schema_fault [] = Some fault.NoColumns
schema_fault columns =
    if nat_lt most_columns (length columns) then Some fault.TooWide
    else if is_some (doubled_column_after [] columns) then Some fault.DoubledName
    else None
