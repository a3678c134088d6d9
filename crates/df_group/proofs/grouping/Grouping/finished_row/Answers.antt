use Rattle.std.proofs.Common.{◌∙◌, ap, sym, subst, length}
use Rattle.std.specs.FinMap as finite
use Rattle.std.specs.Option.{option_copied}
use Rattle.std.specs.Prelude.{IfSome}
use Rattle.std.proofs.lemmas.List.{length_push}
use Rattle.std.proofs.lemmas.Result.{IfOk-weaker}
use Rattle.std.proofs.lemmas.Slice.Zip.{zip_end, zip_turn}
use Rattle.df_group.specs.Totals.{IsCellBefore}
use Rattle.df_group.proofs.FinishedRow.{cell_more, cells_done, known_cell, place_of}
use Rattle.df_group.proofs.grouping.Grouping.finished_row.Goals as goal

pub loop-named-preserved : goal.loop-named-preserved
loop-named-preserved c own before =
    let g = c.args.self.now in
    let rows = finite.values c.args.members.now.rows in
    let turn =
    zip_turn g.aggregates c.args.totals.now c.loop-named.yielded c.into_iter-named-iterator.result c.loop-named.named-iterator c.next.new.self c.next.result
    (cc (c.into_iter-named-iterator.ensures.into_iter_gives, c.zip-named-items.ensures.first, c.iter.ensures.rest))
    (cc (c.into_iter-named-iterator.ensures.into_iter_gives, c.zip-named-items.ensures.second.0))
    c.loop-named.yielded_by _ c.in-Some.is c.next.ensures.steps in
    let columns = c.as_slice-columns.ensures ∙ c.columns.ensures.value in
    let n = length c.loop-named.yielded in
    let a = c.in-Some.named.now in
    let known = subst (λ o. IfSome o (λ k. IsCellBefore c.as_slice-columns.result.now a.1 k c.args.entries.now rows)) (sym c.cell_before-known.ensures)
    (known_cell g c.args.key.now c.args.entries.now rows (option_copied c.args.before) c.as_slice-columns.result.now n (length c.as_slice-in-loop-named.result.now) a columns turn.0 (turn.2 a)
    (ap length (c.as_slice-in-loop-named.ensures.value ∙ c.loop-named.invariant own before) ∙ place_of g c.args.key.now rows n turn.0) before) in
    let made = IfOk-weaker c.finished_cell-cell.result _ _ (λ x e total. e total known) c.finished_cell-cell.ensures in
    cell_more g c.args.key.now rows c.args.totals.now own _ n _ _ _ _ _ _ _
    columns turn.0 turn.2 turn.3 (length_push c.loop-named.yielded _) made c.in_ok-push_made.ensures.1 (c.loop-named.invariant own before) c.in_ok-push_made.ensures.2

pub returns : goal.returns
returns c =
    let g = c.args.self.now in
    IfOk-weaker c.new.result _ _
    (λ r e own before. e ∙ cells_done g c.args.key.now (finite.values c.args.members.now.rows) c.args.totals.now own (length c.loop-named.yielded) _
    (zip_end g.aggregates c.args.totals.now c.loop-named.yielded c.into_iter-named-iterator.result c.loop-named.named-iterator c.next.new.self c.next.result
    (cc) (cc) c.loop-named.yielded_by c.in-None.is c.next.ensures.steps)
    (c.loop-named.invariant own before))
    c.new.ensures
