use Rattle.std.proofs.Common.{◌≡◌, ◌+◌, ◌*◌, take, map}
use Rattle.df_tree.specs.Leaves.{alike, rank_above, rank_of}
use Rattle.df_tree.proofs.+copied.Given as goal

abbrev pub decreases-seq::Seq::copied : goal.decreases-seq::Seq::copied
decreases-seq::Seq::copied g l = 3 * l.self.now.1 + 2

abbrev pub decreases-copying::copied_node : goal.decreases-copying::copied_node
decreases-copying::copied_node g l = 3 * rank_of l.node.now + 1

abbrev pub decreases-copying::copied_parts : goal.decreases-copying::copied_parts
decreases-copying::copied_parts g l = 3 * rank_above l.parts.now

abbrev pub invariant-copying::copied_parts-loop-part : goal.invariant-copying::copied_parts-loop-part
invariant-copying::copied_parts-loop-part g l = map alike l.made.items ≡ map alike (take l.part-index l.parts)
