use Rattle.std.proofs.Common.{◌∙◌}
use Rattle.df_text.proofs.TreeFacts.{one_of_views}
use Rattle.df_text.proofs.tree.is_among.Goals as goal

pub returns : goal.returns
returns c = c.equals_one.ensures ∙ one_of_views (λ k. k.now) c.args.key.now c.args.keys.now
