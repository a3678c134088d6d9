use Rattle.std.proofs.Common.{inr, refl, rules, subst}
use Rattle.std.proofs.lemmas.Result.{err_from_is_err_and}
use Rattle.df_session.proofs.reporting.push_table.Goals as goal

pub returns-in_err-push-clause-refused : goal.returns-in_err-push-clause-refused
returns-in_err-push-clause-refused g c =
    let p = err_from_is_err_and c.from_residual-in_err-push.result c.from_residual-in_err-push.ensures.1 in
    let given = subst (λ r. g.S.ChangeStore.Tables c.args.store.now c.view_table.new.self c.args.definitions.now c.args.view.now r) c.in_ok-table.was c.view_table.ensures in
    rw (p.1, p.2) (inr (inr (c.view_table.new.self, c.in_ok-table.table, given, (refl, refl))))

pub returns-clause-made : goal.returns-clause-made
returns-clause-made g c = (
  c.in_ok-table.table,
  subst (λ r. g.S.ChangeStore.Tables c.args.store.now c.view_table.new.self c.args.definitions.now c.args.view.now r) c.in_ok-table.was c.view_table.ensures,
  search rules,
)
