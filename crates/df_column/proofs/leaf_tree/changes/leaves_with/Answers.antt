use Rattle.std.proofs.Common.{◌∙◌}
use Rattle.df_column.proofs.SpliceLemmas.{joined_made}
use Rattle.df_column.proofs.leaf_tree.changes.leaves_with.Goals as goal

pub returns : goal.returns
returns c =
    c.into_tree.ensures ∙ c.in_ok-leaves.ensures
    ∙ joined_made c.args.low c.args.high c.len.result c.len-2.result c.args.blocks.now c.args.made.now c.new.result c.in_ok-before.before c.in_ok-both.both c.in_ok-all.all
    c.new.ensures c.in_ok-before.ensures c.in_ok-both.ensures c.len.ensures c.in_ok-all.ensures c.len-2.ensures
