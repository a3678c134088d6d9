use Rattle.std.proofs.Common.{◌≡◌, ◌∙◌, None, IfOk, subst, sym}
use Rattle.std.proofs.lemmas.Bool.{ltb-true}
use Rattle.std.proofs.lemmas.List.{get_or_default}
use Rattle.df_column.specs.BlockLists.{min_or_max_cell}
use Rattle.df_column.specs.MinMaxCells.{min_or_max_with}
use Rattle.df_column.proofs.leaf.min_or_max_kept.Goals as goal

pub returns-in-Some : goal.returns-in-Some
returns-in-Some c =
    let there = ltb-true _ _ (sym c.in-Some.ensures.lookup.0) in
    let kept : c.in-Some.cell.now ≡ min_or_max_cell c.args.which c.args.run.now c.args.index =
    c.in-Some.ensures.lookup.1 ∙ get_or_default c.args.kept.now c.args.index c.in-Some.cell.now None there ∙ c.requires c.args.index there in
    subst (λ o. IfOk c.min_or_max_with_cell.result (λ v. v ≡ min_or_max_with c.args.which c.args.best o)) kept c.min_or_max_with_cell.ensures
