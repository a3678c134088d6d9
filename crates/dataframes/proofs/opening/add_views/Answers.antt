use Rattle.std.proofs.Common.{◌∙◌, Some, ap, inr, subst, sym}
use Rattle.std.specs.Prelude.{IfErr}
use Rattle.std.proofs.lemmas.Option.{slice_get-get_or}
use Rattle.std.proofs.lemmas.Result.{err_from_is_err_and}
use Rattle.df_state.proofs.Loops.{mapped-more}
use Rattle.dataframes.specs.Closing.{IsNotAdded, IsViewNotAdded}
use Rattle.dataframes.proofs.opening.add_views.Goals as goal

pub returns-in_err-add_view-clause-refused : goal.returns-in_err-add_view-clause-refused
returns-in_err-add_view-clause-refused g c =
    let i = c.loop-view.view-index in
    let view = c.view-item.result in
    let there = slice_get-get_or c.args.views.now i view c.loop-view-test.true ∙ ap Some (sym c.view-item.is) in
    let made = err_from_is_err_and c.from_residual-in_err-add_view.result c.from_residual-in_err-add_view.ensures.1 in
    subst (λ r. IfErr r (IsNotAdded g.J.Naming.schemas c.args.views.now)) (sym made.1)
    (inr (i, view, there, subst (IsViewNotAdded g.J.Naming.schemas view) (sym made.2) c.in_err-add_view.ensures.refused))

pub loop-view-preserved : goal.loop-view-preserved
loop-view-preserved g c =
    mapped-more c.args.views.now c.loop-view.view-index c.view-item.result (λ v. (v.0, v.1.schema)) _ _ _ c.loop-view-test.true c.view-item.is c.loop-view.invariant c.in_ok-push.ensures.items c.in_ok-add_view.ensures.added
