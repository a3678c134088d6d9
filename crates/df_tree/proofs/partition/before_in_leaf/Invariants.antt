use Rattle.std.proofs.Common.{◌≡◌, take, true}
use Rattle.std.specs.List.{AllByRecursion}
use Rattle.df_tree.specs.Laws.{total}
use Rattle.df_tree.proofs.partition.before_in_leaf.Given as goal

abbrev pub invariant-loop-at : goal.invariant-loop-at
invariant-loop-at g l = record {
  before : AllByRecursion (λ x. g.P.Predicate.holds l.predicate x ≡ true) (take l.at l.run);
  sum_is : l.sum ≡ total g.I.Measure.Monoid.none g.I.Measure.Monoid.plus g.I.Item.measure (take l.at l.run);
}
