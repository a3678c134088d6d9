-- What callers see of a checked plan, and what every one of them keeps to.
use Rattle.std.specs.Prelude.{◌≡◌, ℕ, List, IsTrue}
use Rattle.df_value.specs.declared.cell.Cell.{Cell}
use Rattle.df_value.specs.declared.cell.CellType.{CellType}
use Rattle.df_value.specs.Rows.{rows_fit}
use Rattle.df_plan.specs.Meaning.{table_of}
use Rattle.df_plan.specs.declared.plan.Plan.{Plan}

-- a plan, the schemas of the frames that it was checked over, and that of its result
pub record CheckedParts : Type 0 where
  pub plan : Plan
  pub frames : List (List (List ℕ × CellType))
  pub schema : List (List ℕ × CellType)

-- over frames whose rows fit, the plan's table has the columns of its schema, and rows that fit them
pub record IsOfItsSchema (p : CheckedParts) (frames : List (List (List Cell))) : Type 0 where
  pub columns : (table_of p.plan p.frames frames).columns ≡ p.schema
  pub rows : IsTrue (rows_fit p.schema (table_of p.plan p.frames frames).rows)
