use Rattle.std.proofs.Common.{◌≡◌, length, take}
use Rattle.df_tree.specs.Leaves.{items, leaves_of_parts}
use Rattle.df_tree.proofs.totals.count_of.Given as goal

abbrev pub invariant-loop-part : goal.invariant-loop-part
invariant-loop-part g l = l.count ≡ length (items (leaves_of_parts (take l.part-index l.parts)))
