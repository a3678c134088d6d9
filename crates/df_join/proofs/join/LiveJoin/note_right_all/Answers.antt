use Rattle.std.proofs.Common.{subst, sym, arith, ◌+◌}
use Rattle.df_column.specs.Changes.{applied}
use Rattle.df_join.specs.Probes.{all_probes, is_staged, right_probes, with_keys}
use Rattle.df_join.proofs.Counted.{keys_end, keys_more, probes_end, probes_more}
use Rattle.df_join.proofs.RightSide.{Follows, follows_first, follows_more, follows_all}
use Rattle.df_join.proofs.join.LiveJoin.note_right_all.Goals as goal

pub loop-entry-init : goal.loop-entry-init
loop-entry-init c = record {
  short = c.entries-entry-items.ensures.len;
  touched = λ i. with_keys c.args.self.now.rule.indices.right (is_staged c.args.staged.now) (c.entries-entry-items.ensures.all i);
  exact = λ i. c.args.probes.now + all_probes c.args.self.now.rule.indices.right (right_probes c.args.self.now.rule) (is_staged c.args.staged.now) (c.entries-entry-items.ensures.all i);
  counted = (omega arith, omega arith);
  follows = λ from l r tags fits new_fit over. subst (λ es. Follows c.args.self.now c.args.staged.now c.args.notes.now from l es (applied r c.args.delta.now)) (sym c.entries-entry-items.ensures.all)
      (follows_first c.args.self.now c.args.staged.now c.args.notes.now from l r c.args.delta.now over tags fits new_fit);
}

pub loop-entry-preserved : goal.loop-entry-preserved
loop-entry-preserved c = record {
  short = c.loop-entry.invariant.short;
  touched = keys_more c.args.self.now.rule.indices.right (is_staged c.loop-entry.staged) (is_staged c.note_right_entry.new.staged) _ c.entries-entry-items.result.now c.loop-entry.entry-index c.entry-item.result c.loop-entry-test.true c.entry-item.is c.in_ok-note_right_entry.ensures.touched c.loop-entry.invariant.touched;
  exact = probes_more c.args.self.now.rule.indices.right (right_probes c.args.self.now.rule) (is_staged c.loop-entry.staged) (is_staged c.note_right_entry.new.staged) c.entries-entry-items.result.now c.loop-entry.entry-index c.entry-item.result _ _ _ c.loop-entry-test.true c.entry-item.is c.in_ok-note_right_entry.ensures.exact c.in_ok-note_right_entry.ensures.touched c.loop-entry.invariant.exact;
  counted = (omega (arith, c.loop-entry.invariant.counted, c.note_right_entry.ensures.counted), omega (arith, c.loop-entry.invariant.counted, c.note_right_entry.ensures.counted));
  follows = λ from l r tags fits new_fit over. follows_more c.args.self.now c.loop-entry.staged c.note_right_entry.new.staged c.loop-entry.notes c.note_right_entry.new.notes from l c.entries-entry-items.result.now c.loop-entry.entry-index c.entry-item.result (applied r c.args.delta.now) c.loop-entry-test.true c.entry-item.is
      (c.in_ok-note_right_entry.ensures.leads from l) (c.loop-entry.invariant.follows from l r tags fits new_fit over);
}

pub returns-clause-leads : goal.returns-clause-leads
returns-clause-leads c from l r tags fits new_fit over = follows_all c.args.self.now _ _ from l c.entries-entry-items.result.now c.loop-entry.entry-index _ c.loop-entry-test.false (c.loop-entry.invariant.follows from l r tags fits new_fit over)

pub returns-clause-touched : goal.returns-clause-touched
returns-clause-touched c = keys_end c.args.self.now.rule.indices.right _ _ c.entries-entry-items.result.now c.loop-entry.entry-index c.loop-entry-test.false c.loop-entry.invariant.touched

pub returns-clause-exact : goal.returns-clause-exact
returns-clause-exact c = probes_end c.args.self.now.rule.indices.right (right_probes c.args.self.now.rule) _ c.entries-entry-items.result.now c.loop-entry.entry-index _ _ c.loop-entry-test.false c.loop-entry.invariant.exact
