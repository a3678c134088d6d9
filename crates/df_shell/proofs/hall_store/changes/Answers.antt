use Rattle.std.proofs.Common.{◌∙◌, ap, subst}
use Rattle.std.specs.Prelude.{IfSome}
use Rattle.df_hall.specs.LastChanges.{IsLastChange}
use Rattle.df_session.specs.ViewChanges.{change_lines, change_text}
use Rattle.df_shell.proofs.ToldFacts.{number-before}
use Rattle.df_shell.proofs.hall_store.changes.Goals as goal

pub returns-in_ok-tell_last-in-Some : goal.returns-in_ok-tell_last-in-Some
returns-in_ok-tell_last-in-Some g c =
    let last = c.in-Some.last in (
      last,
      subst (λ o. IfSome o (IsLastChange c.args.told.now c.args.view.now)) c.in-Some.is c.in_ok-last.ensures,
      c.in_ok-tell_last-in-Some.ensures
          ∙ ap (λ n. change_text c.args.view.now n (change_lines last.table.rows last.changes)) (number-before c.number.result _ c.number.ensures.number),
    )
