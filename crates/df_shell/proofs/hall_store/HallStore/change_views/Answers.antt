use Rattle.std.proofs.Common.{ap, subst}
use Rattle.std.specs.Prelude.{Some}
use Rattle.df_state.specs.ViewChanges.{change_of_views}
use Rattle.df_shell.proofs.DesksFacts.{are-same, desks-kept}
use Rattle.df_shell.proofs.HallFacts.{answered}
use Rattle.df_shell.specs.Changing.{IsAnswered}
use Rattle.df_shell.specs.Halls.{HallParts}
use Rattle.df_versions.specs.Answered.{told_states}
use Rattle.df_shell.proofs.hall_store.HallStore.change_views.Goals as goal

pub returns : goal.returns
returns g c =
    let s = c.self.inside in
    let before : HallParts = record { told = s.reader.1.1; seen = s.reader.1.0; desks = s.desks.items } in
    let change = change_of_views c.args.change in
    subst (λ p. IsAnswered p change (Some c.change_views.result) p) c.self.view_is
    (answered s.told _ before s.desks.items change c.change_views.result c.self.invariant.1 (ap told_states c.as_ref-told.ensures.value)
    c.change_views.ensures (are-same s.desks.items change c.change_views.result (desks-kept s.desks.items c.args.change)))
