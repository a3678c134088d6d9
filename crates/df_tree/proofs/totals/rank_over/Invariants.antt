use Rattle.std.proofs.Common.{◌≡◌, take}
use Rattle.df_tree.specs.Leaves.{rank_above}
use Rattle.df_tree.proofs.totals.rank_over.Given as goal

abbrev pub invariant-loop-part : goal.invariant-loop-part
invariant-loop-part g l = l.rank ≡ rank_above (take l.part-index l.parts)
