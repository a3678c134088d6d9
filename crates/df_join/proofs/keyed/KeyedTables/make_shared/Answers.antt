use Rattle.std.proofs.Common.{◌∙◌}
use Rattle.df_join.proofs.keyed.KeyedTables.make_shared.Goals as goal

pub returns-in_err-share_at : goal.returns-in_err-share_at
returns-in_err-share_at c = c.share_at.ensures ∙ c.loop-index.invariant

pub loop-index-preserved : goal.loop-index-preserved
loop-index-preserved c = c.share_at.ensures ∙ c.loop-index.invariant
