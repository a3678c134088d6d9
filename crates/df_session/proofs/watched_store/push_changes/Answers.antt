use Rattle.std.proofs.Common.{◌∙◌, Ok, ap, rules, subst}
use Rattle.df_session.proofs.watched_store.push_changes.Goals as goal

pub returns-in_ok-extend_from_slice-in-Some : goal.returns-in_ok-extend_from_slice-in-Some
returns-in_ok-extend_from_slice-in-Some g c = (
  c.in-Some.changes,
  subst (g.S.ChangeStore.Tells c.args.store.now c.args.view.now) (c.in_ok-changes.was ∙ ap Ok c.in-Some.is) c.changes.ensures,
  search rules,
)
