use Rattle.std.proofs.Common.{refl, subst}
use Rattle.std.specs.Prelude.{◌||◌}
use Rattle.df_value.specs.Rows.{row_eq}
use Rattle.df_join.specs.Probes.{is_staged}
use Rattle.df_join.specs.Keyed.{LeadsTo}
use Rattle.df_join.proofs.Staging.{set_none}
use Rattle.df_join.proofs.members.Members.stage_option.Goals as goal

pub returns-in-None-clause-leads : goal.returns-in-None-clause-leads
returns-in-None-clause-leads c = rw c.in-None.is (λ t stood fits over. subst (LeadsTo c.args.indices.now c.args.self.now c.args.staged.now) (set_none c.args.goes t c.args.tag stood) over)

pub returns-in_ok-stage_row-in-Some-clause-touched : goal.returns-in_ok-stage_row-in-Some-clause-touched
returns-in_ok-stage_row-in-Some-clause-touched c = rw c.in-Some.is (λ i k. (c.in_ok-stage_row-in-Some.ensures.touched k) i)

pub returns-in_ok-stage_row-in-Some-clause-leads : goal.returns-in_ok-stage_row-in-Some-clause-leads
returns-in_ok-stage_row-in-Some-clause-leads c = rw c.in-Some.is (λ t stood fits over. c.in_ok-stage_row-in-Some.ensures.leads c.args.indices.now t (record { key_is = refl; stood = stood; fits = fits }) over)
