use Rattle.std.proofs.Common.{◌≡◌, ◌∙◌, Some, ap, subst, sym}
use Rattle.std.specs.Prelude.{IfSome, option_map}
use Rattle.df_catalogue.specs.KeptChanges.{tagged_table_of}
use Rattle.df_catalogue.specs.declared.keeping.ViewChanges.{ViewChanges}
use Rattle.df_shell.proofs.reading.changes.Goals as goal

pub returns-in_ok-tell_last-in-Some : goal.returns-in_ok-tell_last-in-Some
returns-in_ok-tell_last-in-Some g c =
    let last = c.in-Some.last in (
      last.changes,
      last.table.rows,
      sym c.in_ok-last.ensures.changes ∙ ap (option_map (λ (v : ViewChanges). v.changes)) c.in-Some.is,
      subst (λ o. IfSome o (λ (v : ViewChanges). tagged_table_of c.args.catalogue.now.state c.args.view.now ≡ Some v.table.rows)) c.in-Some.is c.in_ok-last.ensures.table,
      c.in_ok-tell_last-in-Some.ensures,
    )
