use Rattle.std.proofs.Common.{◌∙◌, ◌++◌, ◌∷◌, [], List, ℕ, ap, codes, flat_map, sym, take}
use Rattle.std.specs.FinMap as finite
use Rattle.std.proofs.lemmas.List.{flat_map_more, take_more}
use Rattle.df_column.specs.declared.entry.Entry.{Entry}
use Rattle.df_session.specs.ViewChanges.{line_of, place_of}
use Rattle.df_session.proofs.view_changes.push_coming.Goals as goal

pub loop-entry-preserved : goal.loop-entry-preserved
loop-entry-preserved c =
    let es = c.args.entries.now in
    let at = c.loop-entry.entry-index in
    let line : Entry → List ℕ = λ e. line_of (codes "+,") (place_of e.tag (finite.entries c.args.table.now.rows)) e.new in
    let out = c.args.out.now.items in
    let more = take_more es at c.entry-item.result c.loop-entry-test.true ∙ ap (λ e. take at es ++ e ∷ []) (sym c.entry-item.is) in
    c.in_ok-push_come.ensures
    ∙ (ap (λ o. o ++ line c.entry-item.result) c.loop-entry.invariant
    ∙ (flat_map_more line out (take at es) c.entry-item.result ∙ ap (λ l. out ++ flat_map line l) (sym more)))
