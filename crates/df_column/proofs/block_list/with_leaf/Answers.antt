use Rattle.std.proofs.Common.{◌∙◌, ◌++◌, ap}
use Rattle.std.proofs.lemmas.Result.{IfOk-weaker}
use Rattle.df_column.proofs.block_list.with_leaf.Goals as goal

pub returns : goal.returns
returns c =
    IfOk-weaker c.pushed.result _ _
    (λ made h. h ∙ ap (λ l. c.args.leaves ++ l) c.in_ok-new.ensures)
    c.pushed.ensures
