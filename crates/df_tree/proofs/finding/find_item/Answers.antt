use Rattle.std.proofs.Common.{rules, ap, sym, ◌∙◌}
use Rattle.df_tree.proofs.FoundLemmas.{item_more}
use Rattle.df_tree.proofs.finding.find_item.Goals as goal

pub returns-then-passes : goal.returns-then-passes
returns-then-passes g c =
    let next = item_more g.I.Measure.Monoid.none g.I.Measure.Monoid.plus g.I.Item.measure g.met.I.Measure.Monoid.laws c.args.run.now c.loop-at.at c.args.before c.loop-at.sum c.plus-next.result _ c.index-run-at.result c.loop-at.invariant.sum_is c.loop-at-test.true c.index-run-at.is c.measure.ensures c.plus-next.ensures in
    record {
      within = search rules;
      sum_is = c.loop-at.invariant.sum_is;
      not_yet = ap (g.T.Test.passes c.args.test.now) (sym c.loop-at.invariant.sum_is) ∙ c.loop-at.invariant.not_yet;
      now = ap (g.T.Test.passes c.args.test.now) (sym next) ∙ sym c.passes.ensures ∙ c.if-passes.true;
    }

pub loop-at-preserved : goal.loop-at-preserved
loop-at-preserved g c =
    record {
      sum_is = item_more g.I.Measure.Monoid.none g.I.Measure.Monoid.plus g.I.Item.measure g.met.I.Measure.Monoid.laws c.args.run.now c.loop-at.at c.args.before c.loop-at.sum c.plus-next.result _ c.index-run-at.result c.loop-at.invariant.sum_is c.loop-at-test.true c.index-run-at.is c.measure.ensures c.plus-next.ensures;
      not_yet = sym c.passes.ensures ∙ c.if-passes.false;
    }
