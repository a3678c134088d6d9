-- The rank of a part is above those of the parts in it.
use Rattle.std.specs.Prelude.{◌≤◌}
use Rattle.std.proofs.Common.{arith}
use Rattle.df_tree.specs.declared.seq.Link.{Link}
use Rattle.df_tree.specs.declared.seq.Link.TheVariants.{Own, Shared}
use Rattle.df_tree.specs.declared.seq.Node.{Node}
use Rattle.df_tree.specs.declared.seq.Node.TheVariants.{Items, Parts}
use Rattle.df_tree.specs.declared.seq.Seq.TheDeep.{deep-Node, deep-Link}
use Rattle.df_tree.specs.declared.item.Item.{Ghosts}
use Rattle.df_tree.specs.declared.item.Monoid.{Ghosts as Sums}
use Rattle.df_tree.specs.Leaves.{rank_of, rank_of_link}

rank_falls_in : {I M : Type 0} (G : Ghosts I M) (H : Sums M) (n : Node I M) → deep-Node I M G H n ≤ rank_of n
rank_falls_in G H (Items xs n) = omega arith
rank_falls_in G H (Parts ks) = omega arith

pub rank_falls : {I M : Type 0} (G : Ghosts I M) (H : Sums M) (l : Link I M) → deep-Link I M G H l ≤ rank_of_link l
rank_falls G H (Own n) = omega (arith, rank_falls_in G H n.value)
rank_falls G H (Shared n) = omega (arith, rank_falls_in G H n.value)
