use Rattle.std.proofs.Common.{◌≡◌, ◌∙◌, ◌+◌, ◌++◌, ◌∷◌, append-nil, arith, drop, length, map, ap, sym}
use Rattle.std.specs.FinMap as finite
use Rattle.std.proofs.lemmas.List.{drop_all, drop_more}
use Rattle.df_column.specs.Tables.{entry_change}
use Rattle.df_session.specs.ViewChanges.{going_lines}
use Rattle.df_session.proofs.PlaceFacts.{going-more}
use Rattle.df_session.proofs.view_changes.push_going.Goals as goal

pub loop-entry-preserved : goal.loop-entry-preserved
loop-entry-preserved c =
    let es = c.args.entries.now in
    let at = c.loop-entry.entry-index in
    let here = drop_more es at c.entry-item.result c.loop-entry-test.true ∙ ap (λ e. e ∷ drop (at + 1) es) (sym c.entry-item.is) in
    rw (c.one_if-gone.ensures.value, c.one_if-come.ensures.value) (
      going-more _ c.loop-entry.gone c.loop-entry.come at es c.entry-item.result _ c.loop-entry.out.items c.push_gone.new.out.items here
          c.loop-entry.invariant.0 c.in_ok-push_gone.ensures,
      omega (arith, c.loop-entry.invariant.1, c.one_if-gone.ensures.few, c.one_if-gone.ensures.value),
      omega (arith, c.loop-entry.invariant.2, c.one_if-come.ensures.few, c.one_if-come.ensures.value),
    )

pub returns : goal.returns
unfolding going_lines
returns c =
    let es = c.args.entries.now in
    let at = c.loop-entry.entry-index in
    let rest = going_lines (finite.entries c.args.table.now.rows) c.loop-entry.gone c.loop-entry.come in
    let past = c.loop-entry-test.false in
    sym (append-nil c.loop-entry.out.items)
    ∙ (ap (λ l. c.loop-entry.out.items ++ rest (map entry_change l)) (sym (drop_all at es (omega (arith, past)))) ∙ c.loop-entry.invariant.0)
