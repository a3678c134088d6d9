use Rattle.std.proofs.Common.{◌≡◌, take, length, false}
use Rattle.df_tree.specs.Leaves.{leaves_of_parts, items}
use Rattle.df_tree.specs.Laws.{total}
use Rattle.df_tree.proofs.finding.reach_in.Given as goal

abbrev pub invariant-loop-at : goal.invariant-loop-at
invariant-loop-at g l = record {
  skipped_is : l.skipped ≡ length (items (leaves_of_parts (take l.at l.parts)));
  sum_is : l.sum ≡ g.I.Measure.Monoid.plus l.fn.before (total g.I.Measure.Monoid.none g.I.Measure.Monoid.plus g.I.Item.measure (items (leaves_of_parts (take l.at l.parts))));
  not_yet : g.T.Test.passes l.test l.sum ≡ false;
}
