use Rattle.std.proofs.Common.{length}
use Rattle.df_tree.proofs.seq.Seq.+from_items.Given as goal

abbrev pub decreases-from_items : goal.decreases-from_items
decreases-from_items g l = length l.run.items
