use Rattle.std.proofs.Common.{None, ap, subst, ◌∙◌}
use Rattle.df_column.specs.Changes.{set_at}
use Rattle.df_join.specs.Keyed.{LeadsTo}
use Rattle.df_join.specs.Probes.{stage_probes, with_key}
use Rattle.df_join.proofs.Counted.{counts_add}
use Rattle.df_join.proofs.Moves.{get_here}
use Rattle.df_join.proofs.Staging.{on_ok_then, set_twice}
use Rattle.df_join.proofs.members.Members.stage_entry.Goals as goal

pub returns-clause-leads : goal.returns-clause-leads
returns-clause-leads c = on_ok_then c.stage_option-2.result c.stage_option-2.ensures.leads (λ new t stood fits over.
    let e = c.args.entry.now in
    subst (LeadsTo c.args.indices.now c.args.self.now c.stage_option-2.new.staged) (set_twice t e.tag None e.new)
    (new (set_at t e.tag None) (get_here t e.tag None) fits (c.in_ok-stage_option.ensures.leads t stood tt over)))

pub returns-clause-touched : goal.returns-clause-touched
returns-clause-touched c = on_ok_then c.stage_option-2.result c.stage_option-2.ensures.touched (λ h. h ∙ ap (with_key c.args.indices.now c.args.entry.now.new) c.in_ok-stage_option.ensures.touched)

pub returns-clause-exact : goal.returns-clause-exact
returns-clause-exact c = on_ok_then c.stage_option-2.result c.stage_option-2.ensures.exact (λ second.
    counts_add _ _ _ _ _ _ c.in_ok-stage_option.ensures.exact second (ap (λ s. stage_probes c.args.indices.now s c.args.entry.now.new) c.in_ok-stage_option.ensures.touched))
