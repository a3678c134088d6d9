use Rattle.df_live.proofs.MadeTrees.{two_made}
use Rattle.df_live.proofs.join_trees.over_two.Goals as goal

pub returns : goal.returns
returns c =
    two_made c.args.left c.args.right c.args.schema _ _ c.args.node _ _ _ c.boxed_tree-on_left.ensures c.boxed_tree-on_right.ensures c.both.ensures.first c.both.ensures.second
    c.both-2.ensures.first c.both-2.ensures.second c.join_tree_of.ensures.tree c.join_tree_of.ensures.parts
