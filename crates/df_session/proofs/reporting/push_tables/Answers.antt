use Rattle.std.proofs.Common.{◌∙◌, ◌∷◌, [], Ok, arith, append-nil, refl, subst, sym}
use Rattle.std.proofs.lemmas.List.{take_all}
use Rattle.std.proofs.lemmas.Result.{err_from_is_err_and}
use Rattle.df_session.specs.Reports.{HasTables, IsRefusalOfTables}
use Rattle.df_session.proofs.ReportFacts.{has-more, refused-at}
use Rattle.df_session.proofs.reporting.push_tables.Goals as goal

pub loop-view-init : goal.loop-view-init
loop-view-init g c = ([], (refl, refl), sym (append-nil c.args.tables.now.items))

pub returns-in_err-push_table-clause-refused : goal.returns-in_err-push_table-clause-refused
returns-in_err-push_table-clause-refused g c =
    let p = err_from_is_err_and c.from_residual.result c.from_residual.ensures.1 in
    let e = c.in_err-push_table.field-0.0 in
    let named = c.as_str.ensures ∙ c.view-item.is in
    let first = subst (λ w. IsRefusalOfTables (λ old new. g.S.ChangeStore.Tables old new c.args.definitions.now) (w ∷ []) c.loop-view.store
    c.push_table.new.store e) named c.in_err-push_table.ensures.refused in
    rw (p.1, p.2)
    (refused-at (λ old new. g.S.ChangeStore.Tables old new c.args.definitions.now) c.args.views.now c.loop-view.view-index c.view-item.result
    c.args.store.now c.loop-view.store c.push_table.new.store c.args.tables.now.items c.loop-view.tables.items e c.loop-view-test.true
    c.loop-view.invariant first)

pub loop-view-preserved : goal.loop-view-preserved
loop-view-preserved g c =
    let made = c.in_ok-push_table.ensures.made in
    let named = c.as_str.ensures ∙ c.view-item.is in
    has-more (λ old new. g.S.ChangeStore.Tables old new c.args.definitions.now) c.args.views.now c.loop-view.view-index c.view-item.result
    c.args.store.now c.loop-view.store c.push_table.new.store c.args.tables.now.items c.loop-view.tables.items c.push_table.new.tables.items
    made.0 c.loop-view-test.true c.loop-view.invariant
    (subst (λ w. g.S.ChangeStore.Tables c.loop-view.store c.push_table.new.store c.args.definitions.now w (Ok made.0)) named made.1) made.2

pub returns-clause-made : goal.returns-clause-made
returns-clause-made g c =
    let past = c.loop-view-test.false in
    subst (λ ns. HasTables (λ old new. g.S.ChangeStore.Tables old new c.args.definitions.now) ns c.args.store.now c.loop-view.store c.args.tables.now.items c.loop-view.tables.items)
    (take_all c.loop-view.view-index c.args.views.now (omega (arith, past))) c.loop-view.invariant
