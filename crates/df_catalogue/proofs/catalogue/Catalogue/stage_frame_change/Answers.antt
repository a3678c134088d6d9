use Rattle.std.proofs.Common.{◌∙◌, Ok, Err, Some, ap, refl, sym, subst}
use Rattle.std.proofs.lemmas.Result.{err_from_is_err_and}
use Rattle.df_state.specs.Answers.{RefusedBy}
use Rattle.df_state.specs.FrameChanges.{change_of}
use Rattle.df_catalogue.specs.StagedChanges.{IsStagedChange}
use Rattle.df_state.proofs.Refusing.{by-reason}
use Rattle.df_catalogue.proofs.StagedFacts.{not-staged, out-of-memory, same-kept, staged-after, staged-at}
use Rattle.df_catalogue.proofs.catalogue.Catalogue.stage_frame_change.Goals as goal

pub returns-in_err-check_frame_change-clause-staged : goal.returns-in_err-check_frame_change-clause-staged
returns-in_err-check_frame_change-clause-staged g c =
    let old = c.args.self.now in
    let mid = c.unstage.new.self in
    let f = c.frame-frame.result in
    let change = change_of f c.args.change in
    let made = err_from_is_err_and c.from_residual.result c.from_residual.ensures.1 in
    let refused = by-reason mid.state change made.0 (c.in_err-check_frame_change.ensures.answer ∙ ap Some (sym made.2)) in
    staged-at old mid c.args.change _ _ _ c.frame-frame.ensures.value
    (subst (λ r. IsStagedChange old change r mid) (sym made.1)
    (staged-after old mid mid change (Err made.0) c.unstage.ensures.state c.unstage.ensures.work c.unstage.ensures.kept
    (not-staged mid mid change made.0 refused c.unstage.ensures.nothing refl refl (same-kept mid) c.unstage.ensures.legal)))

pub returns-in_err-stage_rows-clause-staged : goal.returns-in_err-stage_rows-clause-staged
returns-in_err-stage_rows-clause-staged g c =
    let old = c.args.self.now in
    let mid = c.unstage.new.self in
    let new = c.stage_rows.new.self in
    let f = c.frame-frame.result in
    let change = change_of f c.args.change in
    let made = err_from_is_err_and c.from_residual-in_err-stage_rows.result c.from_residual-in_err-stage_rows.ensures.1 in
    let refused = subst (RefusedBy mid.state change) (sym made.2) (out-of-memory mid.state f c.args.change c.in_ok-check_frame_change.ensures.answer) in
    staged-at old new c.args.change _ _ _ c.frame-frame.ensures.value
    (subst (λ r. IsStagedChange old change r new) (sym made.1)
    (staged-after old mid new change (Err made.0) c.unstage.ensures.state c.unstage.ensures.work c.unstage.ensures.kept
    (not-staged mid new change made.0 refused c.in_err-stage_rows.ensures.nothing c.stage_rows.ensures.state c.stage_rows.ensures.work c.stage_rows.ensures.kept c.stage_rows.ensures.legal)))

pub returns-clause-staged : goal.returns-clause-staged
returns-clause-staged g c =
    let old = c.args.self.now in
    let mid = c.unstage.new.self in
    let new = c.stage_rows.new.self in
    let f = c.frame-frame.result in
    let change = change_of f c.args.change in
    staged-at old new c.args.change _ _ _ c.frame-frame.ensures.value
    (staged-after old mid new change (Ok _) c.unstage.ensures.state c.unstage.ensures.work c.unstage.ensures.kept (record {
      sound = c.in_ok-stage_rows.ensures.sound;
      accepted = c.in_ok-check_frame_change.ensures.answer;
      staged = c.in_ok-stage_rows.ensures.staged;
      refused = tt;
      nothing = tt;
      state = c.stage_rows.ensures.state;
      work = c.stage_rows.ensures.work;
      kept = c.stage_rows.ensures.kept;
      legal = c.stage_rows.ensures.legal;
    }))
