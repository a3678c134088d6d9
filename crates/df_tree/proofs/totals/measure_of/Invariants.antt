use Rattle.std.proofs.Common.{◌≡◌, take}
use Rattle.df_tree.specs.Leaves.{leaves_of_parts, items}
use Rattle.df_tree.specs.Laws.{total}
use Rattle.df_tree.proofs.totals.measure_of.Given as goal

abbrev pub invariant-loop-part : goal.invariant-loop-part
invariant-loop-part g l = l.sum ≡ total g.I.Measure.Monoid.none g.I.Measure.Monoid.plus g.I.Item.measure (items (leaves_of_parts (take l.part-index l.parts)))
