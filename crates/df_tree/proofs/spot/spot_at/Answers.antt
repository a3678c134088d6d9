use Rattle.std.proofs.Common.{rules}
use Rattle.df_tree.proofs.SpotLemmas.{found, next}
use Rattle.df_tree.proofs.spot.spot_at.Goals as goal

pub returns-then-rest-part : goal.returns-then-rest-part
returns-then-rest-part g c = found _ _ _ _ _ c.loop-at.invariant c.loop-at-test.true c.index-parts-at.is (search rules)

pub loop-at-preserved : goal.loop-at-preserved
loop-at-preserved g c = next _ _ _ _ _ _ c.loop-at.invariant c.loop-at-test.true c.index-parts-at.is (search rules) (search rules)
