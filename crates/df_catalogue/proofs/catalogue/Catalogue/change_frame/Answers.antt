use Rattle.std.proofs.Common.{Err, sym, subst}
use Rattle.std.proofs.lemmas.Result.{err_from_is_err_and}
use Rattle.df_state.specs.FrameChanges.{change_of}
use Rattle.df_catalogue.specs.KeptChanges.{HasChangesOf}
use Rattle.df_catalogue.specs.StagedChanges.{IsStagedChange}
use Rattle.df_state.specs.Transitions.{IsTransition}
use Rattle.df_catalogue.specs.Work.{IsWorkOf}
use Rattle.df_catalogue.proofs.StagedFacts.{refused-changes, refused-state, refused-work, staged-frame, whole-changes, whole-desk, whole-state, whole-work}
use Rattle.df_catalogue.proofs.catalogue.Catalogue.change_frame.Goals as goal

pub commit_rows-requires-clause-frame : goal.commit_rows-requires-clause-frame
commit_rows-requires-clause-frame g c =
    staged-frame c.args.self.now c.stage_frame_change.new.self c.args.desk.now.frame c.args.change c.in_ok-staged.ensures.staged.staged

pub returns-in_err-staged-clause-state : goal.returns-in_err-staged-clause-state
returns-in_err-staged-clause-state g c =
    let change = change_of c.args.desk.now.frame c.args.change in
    let old = c.args.self.now in
    let new = c.stage_frame_change.new.self in
    let made = err_from_is_err_and c.from_residual.result c.from_residual.ensures.1 in
    subst (λ r. IsTransition old.state change r new.state) (sym made.1)
    (refused-state made.0 old new change (subst (λ f. IsStagedChange old change (Err f) new) (sym made.2) c.in_err-staged.ensures.staged))

pub returns-in_err-staged-clause-work : goal.returns-in_err-staged-clause-work
returns-in_err-staged-clause-work g c =
    let change = change_of c.args.desk.now.frame c.args.change in
    let old = c.args.self.now in
    let new = c.stage_frame_change.new.self in
    let made = err_from_is_err_and c.from_residual.result c.from_residual.ensures.1 in
    subst (λ r. IsWorkOf old change r new) (sym made.1)
    (refused-work made.0 old new change (subst (λ f. IsStagedChange old change (Err f) new) (sym made.2) c.in_err-staged.ensures.staged))

pub returns-in_err-staged-clause-changes : goal.returns-in_err-staged-clause-changes
returns-in_err-staged-clause-changes g c =
    let change = change_of c.args.desk.now.frame c.args.change in
    let old = c.args.self.now in
    let new = c.stage_frame_change.new.self in
    let made = err_from_is_err_and c.from_residual.result c.from_residual.ensures.1 in
    subst (λ r. HasChangesOf old change r new) (sym made.1)
    (refused-changes made.0 old new change (subst (λ f. IsStagedChange old change (Err f) new) (sym made.2) c.in_err-staged.ensures.staged))

pub returns-clause-state : goal.returns-clause-state
returns-clause-state g c = whole-state _ tt c.args.self.now c.stage_frame_change.new.self c.commit_rows.new.self _ c.in_ok-staged.ensures.staged c.commit_rows.ensures.made

pub returns-clause-work : goal.returns-clause-work
returns-clause-work g c = whole-work _ tt c.args.self.now c.stage_frame_change.new.self c.commit_rows.new.self _ c.in_ok-staged.ensures.staged c.commit_rows.ensures.made

pub returns-clause-desk : goal.returns-clause-desk
returns-clause-desk g c =
    whole-desk _ tt c.args.self.now c.stage_frame_change.new.self c.args.desk.now.frame c.args.change c.args.desk.now c.commit_rows.new.desk
    c.in_ok-staged.ensures.staged c.commit_rows.ensures.desk

pub returns-clause-changes : goal.returns-clause-changes
returns-clause-changes g c = whole-changes _ tt c.args.self.now c.stage_frame_change.new.self c.commit_rows.new.self _ c.in_ok-staged.ensures.staged c.commit_rows.ensures.made
