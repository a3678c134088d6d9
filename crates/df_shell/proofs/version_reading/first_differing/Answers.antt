use Rattle.std.proofs.Common.{◌∙◌, Bool, List, ℕ, ap, sym}
use Rattle.std.specs.Prelude.{Some}
use Rattle.df_state.specs.Pictures.{view_rows_in}
use Rattle.df_session.specs.Asked.{plan_named}
use Rattle.df_shell.specs.Versions.{differs_from}
use Rattle.df_shell.proofs.FindFacts.{first-found, none-more}
use Rattle.df_shell.proofs.version_reading.first_differing.Goals as goal

pub returns-then-branch-clause-found : goal.returns-then-branch-clause-found
returns-then-branch-clause-found c =
    let p = c.args.version.now.1 in
    let f : List ℕ → Bool = λ n. differs_from p (plan_named c.args.definitions.now n) (view_rows_in p n) in
    let names = c.args.names.now in
    let i = c.loop-name.name-index in
    let at = ap f (sym c.name-item.is) ∙ ap f (sym c.as_str.ensures) in
    ap Some c.name-item.is
    ∙ first-found f names i c.name-item.result c.loop-name-test.true c.loop-name.invariant
    (at ∙ (sym c.in_ok-differs.ensures.differs ∙ c.if-branch.true))

pub loop-name-preserved : goal.loop-name-preserved
loop-name-preserved c =
    let p = c.args.version.now.1 in
    let f : List ℕ → Bool = λ n. differs_from p (plan_named c.args.definitions.now n) (view_rows_in p n) in
    let at = ap f (sym c.name-item.is) ∙ ap f (sym c.as_str.ensures) in
    none-more f c.args.names.now c.loop-name.name-index c.name-item.result c.loop-name-test.true c.loop-name.invariant
    (at ∙ (sym c.in_ok-differs.ensures.differs ∙ c.if-branch.false))
