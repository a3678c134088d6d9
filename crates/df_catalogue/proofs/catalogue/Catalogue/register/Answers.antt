use Rattle.std.proofs.Common.{Err, sym, subst}
use Rattle.std.proofs.lemmas.Result.{err_from_is_err_and}
use Rattle.df_state.specs.declared.change.Change.TheVariants.{Register}
use Rattle.df_catalogue.specs.KeptChanges.{HasChangesOf}
use Rattle.df_catalogue.specs.StagedChanges.{IsStagedChange}
use Rattle.df_state.specs.Transitions.{IsTransition}
use Rattle.df_catalogue.specs.Work.{IsWorkOf}
use Rattle.df_catalogue.proofs.StagedFacts.{refused-changes, refused-state, refused-work, whole-changes, whole-state, whole-work}
use Rattle.df_catalogue.proofs.catalogue.Catalogue.register.Goals as goal

pub returns-in_err-staged-clause-state : goal.returns-in_err-staged-clause-state
returns-in_err-staged-clause-state g c =
    let change = Register c.args.name c.args.plan in
    let old = c.args.self.now in
    let new = c.stage_register.new.self in
    let made = err_from_is_err_and c.from_residual.result c.from_residual.ensures.1 in
    subst (λ r. IsTransition old.state change r new.state) (sym made.1)
    (refused-state made.0 old new change (subst (λ f. IsStagedChange old change (Err f) new) (sym made.2) c.in_err-staged.ensures.staged))

pub returns-in_err-staged-clause-work : goal.returns-in_err-staged-clause-work
returns-in_err-staged-clause-work g c =
    let change = Register c.args.name c.args.plan in
    let old = c.args.self.now in
    let new = c.stage_register.new.self in
    let made = err_from_is_err_and c.from_residual.result c.from_residual.ensures.1 in
    subst (λ r. IsWorkOf old change r new) (sym made.1)
    (refused-work made.0 old new change (subst (λ f. IsStagedChange old change (Err f) new) (sym made.2) c.in_err-staged.ensures.staged))

pub returns-in_err-staged-clause-changes : goal.returns-in_err-staged-clause-changes
returns-in_err-staged-clause-changes g c =
    let change = Register c.args.name c.args.plan in
    let old = c.args.self.now in
    let new = c.stage_register.new.self in
    let made = err_from_is_err_and c.from_residual.result c.from_residual.ensures.1 in
    subst (λ r. HasChangesOf old change r new) (sym made.1)
    (refused-changes made.0 old new change (subst (λ f. IsStagedChange old change (Err f) new) (sym made.2) c.in_err-staged.ensures.staged))

pub returns-clause-state : goal.returns-clause-state
returns-clause-state g c = whole-state _ tt c.args.self.now c.stage_register.new.self c.commit_views.new.self _ c.in_ok-staged.ensures.staged c.commit_views.ensures.made

pub returns-clause-work : goal.returns-clause-work
returns-clause-work g c = whole-work _ tt c.args.self.now c.stage_register.new.self c.commit_views.new.self _ c.in_ok-staged.ensures.staged c.commit_views.ensures.made

pub returns-clause-changes : goal.returns-clause-changes
returns-clause-changes g c = whole-changes _ tt c.args.self.now c.stage_register.new.self c.commit_views.new.self _ c.in_ok-staged.ensures.staged c.commit_views.ensures.made
