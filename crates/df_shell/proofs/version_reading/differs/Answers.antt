use Rattle.std.proofs.Common.{◌≡◌, ◌∙◌, ap, sym}
use Rattle.std.specs.Prelude.{Ok, Some, not}
use Rattle.std.specs.Cmp.Lexicographic.{pointwise}
use Rattle.df_value.specs.Rows.{row_eq}
use Rattle.df_state.specs.Pictures.{view_rows_in}
use Rattle.df_session.specs.Asked.{plan_named}
use Rattle.df_shell.specs.Versions.{differs_from}
use Rattle.df_shell.proofs.version_reading.differs.Goals as goal

pub returns-in_ok-computed_rows-in-Ok-clause-differs : goal.returns-in_ok-computed_rows-in-Ok-clause-differs
returns-in_ok-computed_rows-in-Ok-clause-differs c =
    let p = c.args.version.now.1 in
    let name = c.args.name.now in
    let rows = c.in-Ok.rows in
    let planned : differs_from p (Some c.in-Some.plan.now) (Ok rows) ≡ differs_from p (plan_named c.args.definitions.now name) (view_rows_in p name) =
    ap (λ o. differs_from p o (Ok rows)) c.in-Some.ensures
    ∙ ap (λ r. differs_from p (plan_named c.args.definitions.now name) r) (sym c.in-Ok.ensures.answer) in
    c.ne.ensures ∙ (ap (λ cs. not (pointwise row_eq rows cs)) c.in_ok-computed_rows-in-Ok.ensures.answer ∙ planned)
