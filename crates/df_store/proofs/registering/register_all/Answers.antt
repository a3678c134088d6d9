use Rattle.std.proofs.Common.{◌≡◌, ◌∙◌, ap, arith, subst, sym, Err, Some}
use Rattle.std.proofs.lemmas.Result.{err_from_is_err_and}
use Rattle.std.specs.Prelude.{IfErr}
use Rattle.df_state.specs.declared.state.State.{State}
use Rattle.df_versions.specs.Histories.{last_state}
use Rattle.df_store.specs.Faults.{IsCauseOfViews}
use Rattle.df_state.proofs.ListFacts.{looked-up}
use Rattle.df_store.proofs.HeadingFacts.{all-registered, next-registered, none-registered}
use Rattle.df_store.proofs.RegisterFacts.{of-views}
use Rattle.df_store.proofs.registering.register_all.Goals as goal

pub loop-at-init : goal.loop-at-init
loop-at-init g c = none-registered c.args.views.now c.args.catalogue.now

pub loop-at-preserved : goal.loop-at-preserved
loop-at-preserved g c =
    next-registered c.loop-at.catalogue c.register_one.new.catalogue c.args.views.now c.loop-at.at c.index-views-at.result c.loop-at.invariant
    (looked-up c.args.views.now c.loop-at.at c.index-views-at.result c.loop-at-test.true c.index-views-at.is) c.in_ok-register_one.ensures.registered

pub returns-in_err-register_one-clause-cause : goal.returns-in_err-register_one-clause-cause
returns-in_err-register_one-clause-cause g c =
    let made = err_from_is_err_and c.from_residual.result c.from_residual.ensures.1 in
    let fault = c.in_err-register_one.ensures in
    subst (λ r. IfErr r (λ cause. (s : State) → last_state c.register_one.new.catalogue ≡ Some s → IsCauseOfViews s c.args.views.now cause)) (sym (made.1 ∙ ap Err made.2))
    (λ s ends. of-views s c.args.views.now c.loop-at.at c.index-views-at.result _
    (looked-up c.args.views.now c.loop-at.at c.index-views-at.result c.loop-at-test.true c.index-views-at.is)
    (c.loop-at.invariant s (ap last_state (sym fault.same) ∙ ends)) (fault.cause s ends))

pub returns-clause-registered : goal.returns-clause-registered
returns-clause-registered g c =
    let ended = c.loop-at-test.false in
    all-registered c.loop-at.catalogue c.args.views.now c.loop-at.at (omega (arith, ended)) c.loop-at.invariant
