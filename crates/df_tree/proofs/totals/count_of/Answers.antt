use Rattle.df_tree.proofs.SpotLemmas.{more}
use Rattle.std.proofs.Common.{rules}
use Rattle.df_tree.proofs.totals.count_of.Goals as goal

pub loop-part-preserved : goal.loop-part-preserved
loop-part-preserved g c = more _ _ _ _ _ c.loop-part.invariant c.loop-part-test.true c.part-item.is (search rules)
