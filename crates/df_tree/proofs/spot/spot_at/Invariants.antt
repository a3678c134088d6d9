use Rattle.std.proofs.Common.{◌≡◌, ◌+◌, length, take}
use Rattle.df_tree.specs.Leaves.{items, leaves_of_parts}
use Rattle.df_tree.proofs.spot.spot_at.Given as goal

abbrev pub invariant-loop-at : goal.invariant-loop-at
invariant-loop-at g l = l.index ≡ length (items (leaves_of_parts (take l.at l.parts))) + l.rest
