use Rattle.std.proofs.Common.{◌∙◌, Bool, List, ℕ, ap}
use Rattle.std.specs.Prelude.{find}
use Rattle.df_state.specs.Pictures.{view_rows_in}
use Rattle.df_session.specs.Asked.{plan_named}
use Rattle.df_session.specs.Told.{check_text}
use Rattle.df_shell.specs.Versions.{differs_from}
use Rattle.df_shell.proofs.version_reading.check.Goals as goal

pub returns-clause-told : goal.returns-clause-told
returns-clause-told c =
    let p = c.args.version.now.1 in
    let f : List ℕ → Bool = λ n. differs_from p (plan_named c.args.definitions.now n) (view_rows_in p n) in
    c.in_ok-verdict.ensures
    ∙ ap check_text (c.in_ok-found.ensures.found ∙ ap (find f) (c.as_slice.ensures ∙ c.in_ok-names.ensures.names))
