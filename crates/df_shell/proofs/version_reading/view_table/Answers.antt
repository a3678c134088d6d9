use Rattle.std.proofs.Common.{◌∙◌, ap, inl, inr, refl, sym}
use Rattle.std.specs.Prelude.{option_map}
use Rattle.std.specs.Option.{option_copied}
use Rattle.std.proofs.lemmas.Result.{err_from_is_err_and}
use Rattle.df_state.specs.Pictures.{rows_in}
use Rattle.df_shell.proofs.ViewTableFacts.{given-in}
use Rattle.df_shell.proofs.version_reading.view_table.Goals as goal

pub returns-in_default : goal.returns-in_default
returns-in_default c = inr (refl, inl (sym c.plan.ensures ∙ ap option_copied c.in_default.is))

pub returns-in_ok-new-in-Some-view_table : goal.returns-in_ok-new-in-Some-view_table
returns-in_ok-new-in-Some-view_table c =
    let made = c.in_ok-new-in-Some-view_table.ensures in
    given-in c.args.definitions.now c.args.version.now.1 c.args.view.now (option_copied c.plan.result) c.in-Some.plan.now (option_copied c.view_table.result)
    c.in-Some-view_table.table.now _ (ap option_copied c.in-Some.is) c.plan.ensures (ap option_copied c.in-Some-view_table.is) c.view_table.ensures.answer made.name
    (made.schema ∙ c.schema.ensures.value) made.table

pub returns-in_err-new-in-Some-view_table : goal.returns-in_err-new-in-Some-view_table
returns-in_err-new-in-Some-view_table c =
    let p = err_from_is_err_and c.from_residual.result c.from_residual.ensures.1 in
    rw (p.1, p.2) (inl refl)

pub returns-in-None : goal.returns-in-None
returns-in-None c = inr (refl, inr (sym c.view_table.ensures.answer ∙ ap (λ o. option_map rows_in (option_copied o)) c.in-None.is))
