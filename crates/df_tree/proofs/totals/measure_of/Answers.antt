use Rattle.std.proofs.Common.{rules}
use Rattle.df_tree.proofs.Sums.{more}
use Rattle.df_tree.proofs.totals.measure_of.Goals as goal

pub loop-part-preserved : goal.loop-part-preserved
loop-part-preserved g c = more g.I.Measure.Monoid.none g.I.Measure.Monoid.plus g.I.Item.measure g.met.I.Measure.Monoid.laws _ _ _ _ _ _ c.loop-part.invariant c.loop-part-test.true c.part-item.is (search rules) c.plus-sum.ensures
