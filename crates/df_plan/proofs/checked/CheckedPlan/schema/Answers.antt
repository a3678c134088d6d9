use Rattle.std.proofs.Common.{◌≡◌, subst}
use Rattle.std.specs.Prelude.{Ok}
use Rattle.df_plan.specs.CheckedParts.{CheckedParts}
use Rattle.df_plan.specs.Checks.{plan_check}
use Rattle.df_plan.proofs.Sound.{table_columns, table_fits}
use Rattle.df_plan.proofs.checked.CheckedPlan.schema.Goals as goal

pub returns-clause-fit : goal.returns-clause-fit
returns-clause-fit c frames fits =
    let p = c.args.self.now in
    let sound : plan_check p.plan p.frames ≡ Ok p.schema =
    subst (λ (p : CheckedParts). plan_check p.plan p.frames ≡ Ok p.schema) c.self.view_is c.self.invariant in
    record {
      columns = table_columns p.frames frames fits p.plan p.schema sound;
      rows = table_fits p.frames frames fits p.plan p.schema sound;
    }
