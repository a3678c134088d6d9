use Rattle.std.proofs.Common.{◌≡◌, take, false}
use Rattle.df_tree.specs.Laws.{total}
use Rattle.df_tree.proofs.finding.find_item.Given as goal

abbrev pub invariant-loop-at : goal.invariant-loop-at
invariant-loop-at g l = record {
  sum_is : l.sum ≡ g.I.Measure.Monoid.plus l.fn.before (total g.I.Measure.Monoid.none g.I.Measure.Monoid.plus g.I.Item.measure (take l.at l.run));
  not_yet : g.T.Test.passes l.test l.sum ≡ false;
}
