use Rattle.std.proofs.Common.{◌∙◌, ap, inl, inr, refl, sym}
use Rattle.std.specs.Prelude.{option_map}
use Rattle.std.specs.FinMap as finite
use Rattle.std.specs.Option.{option_copied}
use Rattle.std.proofs.lemmas.Result.{err_from_is_err_and}
use Rattle.df_column.specs.Tables.{TableParts}
use Rattle.df_shell.proofs.ViewTableFacts.{given-of, none-mapped}
use Rattle.df_shell.proofs.reading.view_table.Goals as goal

pub returns-in_ok-new-in-Some : goal.returns-in_ok-new-in-Some
returns-in_ok-new-in-Some g c =
    let made = c.in_ok-new-in-Some.ensures in
    given-of c.args.catalogue.now.state c.args.view.now (option_copied c.view_table.result) c.in-Some.table.now _ (ap option_copied c.in-Some.is)
    c.view_table.ensures.table c.view_table.ensures.tags c.view_table.ensures.schema made.name (made.schema ∙ c.schema.ensures.value) made.table

pub returns-in_err-new-in-Some : goal.returns-in_err-new-in-Some
returns-in_err-new-in-Some g c =
    let p = err_from_is_err_and c.from_residual.result c.from_residual.ensures.1 in
    rw (p.1, p.2) (inl refl)

pub returns-in-None : goal.returns-in-None
returns-in-None g c =
    inr (refl, none-mapped _ _ (sym (ap (λ o. option_map (λ (u : TableParts). finite.values u.rows) (option_copied o)) c.in-None.is) ∙ c.view_table.ensures.table))
