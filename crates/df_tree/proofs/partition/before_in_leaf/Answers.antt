use Rattle.std.proofs.Common.{sym, ◌∙◌, arith}
use Rattle.df_tree.proofs.PartitionLemmas.{all_next, none_from, sum_next}
use Rattle.df_tree.proofs.partition.before_in_leaf.Goals as goal

pub returns-then-not-holds : goal.returns-then-not-holds
returns-then-not-holds g c = record {
  place = record {
    within = omega (arith, c.loop-at-test.true);
    before = c.loop-at.invariant.before;
    behind = none_from (g.P.Predicate.holds c.args.predicate.now) c.args.run.now c.loop-at.at c.index-run-at.result c.requires c.loop-at-test.true c.index-run-at.is (sym c.holds.ensures ∙ c.if-not-holds.true);
  };
  sum_is = c.loop-at.invariant.sum_is;
}

pub loop-at-preserved : goal.loop-at-preserved
loop-at-preserved g c = record {
  before = all_next _ c.args.run.now c.loop-at.at c.index-run-at.result c.loop-at.invariant.before c.loop-at-test.true c.index-run-at.is (sym c.holds.ensures ∙ c.if-not-holds.false);
  sum_is = sum_next g.I.Measure.Monoid.none g.I.Measure.Monoid.plus g.I.Item.measure g.met.I.Measure.Monoid.laws c.args.run.now c.loop-at.at c.loop-at.sum _ _ c.index-run-at.result c.loop-at.invariant.sum_is c.loop-at-test.true c.index-run-at.is c.measure.ensures c.plus-sum.ensures;
}
