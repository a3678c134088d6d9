use Rattle.std.proofs.Common.{◌≡◌, ◌+◌, ◌*◌, map}
use Rattle.df_tree.specs.Leaves.{alike, rank_above, rank_of}
use Rattle.df_tree.proofs.+make_shared.Given as goal

abbrev pub decreases-seq::Seq::make_shared : goal.decreases-seq::Seq::make_shared
decreases-seq::Seq::make_shared g l = 3 * l.self.now.1 + 2

abbrev pub decreases-sharing::share_below : goal.decreases-sharing::share_below
decreases-sharing::share_below g l = 3 * rank_of l.node.now + 1

abbrev pub decreases-sharing::share_parts : goal.decreases-sharing::share_parts
decreases-sharing::share_parts g l = 3 * rank_above l.parts.now.items

abbrev pub invariant-sharing::share_parts-loop-at : goal.invariant-sharing::share_parts-loop-at
invariant-sharing::share_parts-loop-at g l = map alike l.parts.items ≡ map alike l.fn.parts.items
