use Rattle.std.proofs.Common.{◌≡◌, ◌+◌, subst, sym, arith, is_some}
use Rattle.df_column.specs.Changes.{applied}
use Rattle.df_join.specs.Probes.{all_probes, is_staged, nothing_staged, stage_probes, with_keys}
use Rattle.df_join.proofs.Counted.{keys_end, keys_more, probes_end, probes_more}
use Rattle.df_join.proofs.Staging.{Follows, follows_first, follows_more, follows_all, leads_at_first}
use Rattle.df_join.proofs.members.Members.stage_all.Goals as goal

none : (c : goal.After-entries-entry-items) → is_staged c.new-staged.result ≡ nothing_staged
none c = λ i k. is_some (c.new-staged.ensures k i)

pub loop-entry-init : goal.loop-entry-init
loop-entry-init c = record {
  follows = λ t over fits new_fit. subst (λ es. Follows c.args.indices.now c.args.self.now c.new-staged.result es (applied t c.args.delta.now)) (sym c.entries-entry-items.ensures.all)
      (follows_first c.args.indices.now c.args.self.now c.new-staged.result c.args.delta.now t (leads_at_first c.args.indices.now c.args.self.now c.new-staged.result t c.new-staged.ensures over) fits new_fit);
  keys = λ i. with_keys c.args.indices.now (none c i) (c.entries-entry-items.ensures.all i);
  exact = λ i. c.args.probes.now + all_probes c.args.indices.now (stage_probes c.args.indices.now) (none c i) (c.entries-entry-items.ensures.all i);
  short = c.entries-entry-items.ensures.len;
  counted = (omega arith, omega arith);
}

pub loop-entry-preserved : goal.loop-entry-preserved
loop-entry-preserved c = record {
  follows = λ t over fits new_fit. follows_more c.args.indices.now c.args.self.now c.loop-entry.staged c.stage_entry.new.staged c.entries-entry-items.result.now c.loop-entry.entry-index c.entry-item.result (applied t c.args.delta.now) c.loop-entry-test.true c.entry-item.is c.in_ok-stage_entry.ensures.leads (c.loop-entry.invariant.follows t over fits new_fit);
  keys = keys_more c.args.indices.now (is_staged c.loop-entry.staged) (is_staged c.stage_entry.new.staged) _ c.entries-entry-items.result.now c.loop-entry.entry-index c.entry-item.result c.loop-entry-test.true c.entry-item.is c.in_ok-stage_entry.ensures.touched c.loop-entry.invariant.keys;
  exact = probes_more c.args.indices.now (stage_probes c.args.indices.now) (is_staged c.loop-entry.staged) (is_staged c.stage_entry.new.staged) c.entries-entry-items.result.now c.loop-entry.entry-index c.entry-item.result _ _ _ c.loop-entry-test.true c.entry-item.is c.in_ok-stage_entry.ensures.exact c.in_ok-stage_entry.ensures.touched c.loop-entry.invariant.exact;
  short = c.loop-entry.invariant.short;
  counted = (omega (arith, c.loop-entry.invariant.counted, c.stage_entry.ensures.counted), omega (arith, c.loop-entry.invariant.counted, c.stage_entry.ensures.counted));
}

pub returns-clause-leads : goal.returns-clause-leads
returns-clause-leads c t over fits new_fit = follows_all c.args.indices.now c.args.self.now _ c.entries-entry-items.result.now c.loop-entry.entry-index _ c.loop-entry-test.false (c.loop-entry.invariant.follows t over fits new_fit)

pub returns-clause-touched : goal.returns-clause-touched
returns-clause-touched c = keys_end c.args.indices.now _ _ c.entries-entry-items.result.now c.loop-entry.entry-index c.loop-entry-test.false c.loop-entry.invariant.keys

pub returns-clause-exact : goal.returns-clause-exact
returns-clause-exact c = probes_end c.args.indices.now (stage_probes c.args.indices.now) _ c.entries-entry-items.result.now c.loop-entry.entry-index _ _ c.loop-entry-test.false c.loop-entry.invariant.exact
