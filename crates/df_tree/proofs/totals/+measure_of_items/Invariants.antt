use Rattle.std.proofs.Common.{length}
use Rattle.df_tree.proofs.totals.+measure_of_items.Given as goal

abbrev pub decreases-measure_of_items : goal.decreases-measure_of_items
decreases-measure_of_items g l = length l.run.now
