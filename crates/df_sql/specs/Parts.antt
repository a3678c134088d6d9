-- The parts of a plan that checks.
use Rattle.std.specs.Prelude.{◌≡◌, List, Ok}
use Rattle.df_value.specs.Schemas.{Columns}
use Rattle.df_plan.specs.Checks.{columns_of}
use Rattle.df_plan.specs.declared.plan.Plan.{Plan}

-- a plan, or a part of one, has columns over frames of these schemas
unfoldable pub HasColumns : Plan → List Columns → Type 0
HasColumns p schemas = (columns : Columns) × (columns_of p schemas ≡ Ok columns)
