-- The frames that a plan reads.
use Rattle.std.specs.Prelude.{◌&&◌, ℕ, Bool, true, nat_lt}
use Rattle.df_plan.specs.Inputs.{inputs_of, from_inputs}
use Rattle.df_plan.specs.declared.plan.Plan.{Plan, fold-Plan}
use Rattle.df_plan.specs.declared.plan.Plan.TheOpen.{Plan-F}

abbrev pub scans_below_step : ℕ → Plan-F Bool → Bool
scans_below_step n (Plan-F.Scan frame) = nat_lt frame n
scans_below_step n p = from_inputs true (λ left right. left && right) (inputs_of p)

-- whether each frame that a plan reads has an index below this number
abbrev pub scans_below : ℕ → Plan → Bool
scans_below n p = fold-Plan Bool (scans_below_step n) p
