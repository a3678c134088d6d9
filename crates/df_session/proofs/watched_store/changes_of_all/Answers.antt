use Rattle.std.proofs.Common.{◌∙◌, ◌++◌, ◌∷◌, [], Ok, Some, ap, subst, sym, take}
use Rattle.std.proofs.lemmas.List.{take_more}
use Rattle.df_session.specs.Watching.{IsToldOf}
use Rattle.df_session.proofs.WatchFacts.{told-more}
use Rattle.df_session.proofs.watched_store.changes_of_all.Goals as goal

pub loop-view-preserved : goal.loop-view-preserved
loop-view-preserved g c =
    let Tells = g.S.ChangeStore.Tells c.args.store.now in
    let views = c.args.views.now in
    let at = c.loop-view.view-index in
    let view = c.view-item.result in
    let more = take_more views at view c.loop-view-test.true ∙ ap (λ v. take at views ++ v ∷ []) (sym c.view-item.is) in
    let told = c.in_ok-push_changes.ensures in
    subst (λ ns. IsToldOf Tells ns c.push_changes.new.text.items) (sym more)
    (told-more Tells (take at views) c.loop-view.text.items view told.0 c.push_changes.new.text.items c.loop-view.invariant
    (subst (λ n. Tells n (Ok (Some told.0))) c.name.ensures told.1) told.2)
