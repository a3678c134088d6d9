use Rattle.std.proofs.Common.{subst, sym, refl, arith, ◌+◌}
use Rattle.df_column.specs.Changes.{applied}
use Rattle.df_join.specs.Sides.{is_one}
use Rattle.df_join.specs.Probes.{all_probes, is_staged, note_probes, nothing_staged}
use Rattle.df_join.proofs.Counted.{probes_end, probes_more}
use Rattle.df_join.proofs.LeftSide.{Follows, follows_first, follows_more, follows_all}
use Rattle.df_join.proofs.join.LiveJoin.note_left_all.Goals as goal

pub loop-entry-init : goal.loop-entry-init
loop-entry-init c = record {
  short = c.entries-entry-items.ensures.len;
  exact = (nothing_staged, λ i. c.args.probes.now + all_probes c.args.self.now.rule.indices.left (λ _. note_probes c.args.self.now.rule (is_staged c.args.staged.now)) nothing_staged (c.entries-entry-items.ensures.all i));
  counted = (omega arith, omega arith);
  follows = λ from t r h tags fits leads.
      let one = is_one c.args.self.now.left_scans in
      let rule = c.args.self.now.rule in
      subst (λ es. Follows one rule c.args.self.now.right c.args.staged.now c.args.notes.now from r es (applied t c.args.delta.now)) (sym c.entries-entry-items.ensures.all)
      (follows_first one rule c.args.self.now.right c.args.staged.now c.args.notes.now from t r c.args.delta.now h tags fits leads);
}

pub loop-entry-preserved : goal.loop-entry-preserved
loop-entry-preserved c = record {
  short = c.loop-entry.invariant.short;
  exact = (_, probes_more c.args.self.now.rule.indices.left (λ _. note_probes c.args.self.now.rule (is_staged c.args.staged.now)) c.loop-entry.invariant.exact.0 _ c.entries-entry-items.result.now c.loop-entry.entry-index c.entry-item.result _ _ _ c.loop-entry-test.true c.entry-item.is c.in_ok-note_left_entry.ensures.exact refl c.loop-entry.invariant.exact.1);
  counted = (omega (arith, c.loop-entry.invariant.counted, c.note_left_entry.ensures.counted), omega (arith, c.loop-entry.invariant.counted, c.note_left_entry.ensures.counted));
  follows = λ from t r h tags fits leads.
      let one = is_one c.args.self.now.left_scans in
      let rule = c.args.self.now.rule in
      follows_more one rule c.args.self.now.right c.args.staged.now c.loop-entry.notes c.note_left_entry.new.notes from r c.entries-entry-items.result.now c.loop-entry.entry-index c.entry-item.result (applied t c.args.delta.now) c.loop-entry-test.true c.entry-item.is
      (λ l. c.in_ok-note_left_entry.ensures.leads from l r) (c.loop-entry.invariant.follows from t r h tags fits leads);
}

pub returns-clause-leads : goal.returns-clause-leads
returns-clause-leads c from t r h tags fits leads =
    let one = is_one c.args.self.now.left_scans in
    let rule = c.args.self.now.rule in
    follows_all one rule c.args.self.now.right c.args.staged.now _ from r c.entries-entry-items.result.now c.loop-entry.entry-index _ c.loop-entry-test.false (c.loop-entry.invariant.follows from t r h tags fits leads)

pub returns-clause-exact : goal.returns-clause-exact
returns-clause-exact c = probes_end c.args.self.now.rule.indices.left (λ _. note_probes c.args.self.now.rule (is_staged c.args.staged.now)) c.loop-entry.invariant.exact.0 c.entries-entry-items.result.now c.loop-entry.entry-index _ _ c.loop-entry-test.false c.loop-entry.invariant.exact.1
