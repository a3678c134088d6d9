use Rattle.std.proofs.Common.{◌≡◌, ◌∙◌, IfOk, ap, subst, sym}
use Rattle.df_column.specs.BlockLists.{min_or_max_cell}
use Rattle.df_column.specs.MinMaxCells.{min_or_max_with}
use Rattle.df_column.proofs.LeafMinMax.{min_or_max_both}
use Rattle.df_column.proofs.block_list.BlockList.min_or_max.Goals as goal

pub returns : goal.returns
returns c =
    subst (λ o. IfOk c.min_or_max-2.result (λ v. v ≡ o))
    (ap (λ o. min_or_max_with c.args.which o (min_or_max_cell c.args.which c.self.inside.tail c.args.index)) c.in_ok-best.ensures
    ∙ sym (min_or_max_both c.args.which c.self.inside.leaves c.self.inside.tail c.args.index)
    ∙ ap (λ bs. min_or_max_cell c.args.which bs c.args.index) c.self.view_is)
    c.min_or_max-2.ensures
