-- What a service is opened with.
use Rattle.std.specs.Prelude.{◌≡◌, ◌⊎◌, ℕ, List, [], ◌∷◌, ◌++◌, Some, Err}
use Rattle.df_plan.specs.Checks.{plan_check}
use Rattle.df_plan.specs.CheckedParts.{CheckedParts}
use Rattle.df_plan.specs.declared.fault.PlanFault.{PlanFault}
use Rattle.df_plan.specs.declared.plan.Plan.{Plan}
use Rattle.df_value.specs.SchemaFaults.{schema_fault}
use Rattle.df_value.specs.declared.cell.CellType.{CellType}
use Rattle.df_value.specs.declared.schema.SchemaFault.{SchemaFault}
use Rattle.df_versions.specs.declared.fault.OpenFault.TheVariants as open_fault
use Rattle.dataframes.specs.declared.fault.FinishFault.{FinishFault}
use Rattle.dataframes.specs.declared.fault.FinishFault.TheVariants.{Frame, Open, Plan as OfPlan}

-- the schemas of the frames, and the views by name with their plans
pub record BuilderParts : Type 0 where
  pub schemas : List (List (List ℕ × CellType))
  pub views : List (List ℕ × CheckedParts)

-- one view more, of a plan that was checked over the frames
pub record HasOneMore (old : BuilderParts) (name : List ℕ) (plan : Plan) (new : BuilderParts) : Type 0 where
  pub checked : CheckedParts
  pub of_plan : checked.plan ≡ plan
  pub over : checked.frames ≡ old.schemas
  pub added : new ≡ record old { views = old.views ++ (name, checked) ∷ [] }

-- why there is no further frame of these columns: they are no schema, or memory was refused
abbrev pub IsNoFrame : List (List ℕ × CellType) → FinishFault → Type 0
IsNoFrame columns f = (f ≡ Open open_fault.Memory) ⊎ ((s : SchemaFault) × (schema_fault columns ≡ Some s) × (f ≡ Frame s))

-- why there is no further view of this plan: it does not check, or memory was refused
abbrev pub IsNoPlan : List (List (List ℕ × CellType)) → Plan → FinishFault → Type 0
IsNoPlan schemas plan f = (f ≡ Open open_fault.Memory) ⊎ ((p : PlanFault) × (plan_check plan schemas ≡ Err p) × (f ≡ OfPlan p))
