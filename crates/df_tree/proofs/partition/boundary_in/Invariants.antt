use Rattle.std.proofs.Common.{◌≡◌, take, length, true}
use Rattle.std.specs.List.{AllByRecursion}
use Rattle.df_tree.specs.Leaves.{leaves_of_parts, items}
use Rattle.df_tree.specs.Laws.{total}
use Rattle.df_tree.proofs.partition.boundary_in.Given as goal

abbrev pub invariant-loop-at : goal.invariant-loop-at
invariant-loop-at g l = record {
  before : AllByRecursion (λ x. g.P.Predicate.holds l.predicate x ≡ true) (items (leaves_of_parts (take l.at l.parts)));
  skipped_is : l.skipped ≡ length (items (leaves_of_parts (take l.at l.parts)));
  sum_is : l.sum ≡ total g.I.Measure.Monoid.none g.I.Measure.Monoid.plus g.I.Item.measure (items (leaves_of_parts (take l.at l.parts)));
}
