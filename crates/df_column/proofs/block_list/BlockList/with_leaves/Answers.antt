use Rattle.std.proofs.Common.{◌∙◌, ◌++◌, ap, append-nil}
use Rattle.df_column.proofs.block_list.BlockList.with_leaves.Goals as goal

pub returns : goal.returns
returns c =
    ap (λ t. c.in_ok-leaves.leaves ++ t) c.new.ensures ∙ append-nil c.in_ok-leaves.leaves ∙ c.in_ok-leaves.ensures
    ∙ ap (λ bs. bs ++ c.args.shared.now) (c.in_ok-closed.ensures ∙ c.self.view_is)
