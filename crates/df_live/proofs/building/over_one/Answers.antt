use Rattle.df_live.proofs.MadeTrees.{one_made}
use Rattle.df_live.proofs.building.over_one.Goals as goal

pub returns : goal.returns
returns c =
    one_made c.args.input c.args.schema _ c.args.node _ _ c.boxed.ensures c.both-parts.ensures.first c.both-parts.ensures.second
    c.operator_tree.ensures.tree c.operator_tree.ensures.parts
