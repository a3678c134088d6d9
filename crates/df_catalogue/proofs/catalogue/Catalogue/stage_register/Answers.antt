use Rattle.std.proofs.Common.{◌≡◌, ◌∙◌, Ok, Err, Some, None, ap, refl, sym, subst}
use Rattle.std.specs.Prelude.{IsSomeAnd}
use Rattle.std.proofs.lemmas.Result.{err_from_is_err_and}
use Rattle.df_state.specs.declared.change.Change.TheVariants.{Register}
use Rattle.df_state.specs.Answers.{RefusedBy}
use Rattle.df_state.specs.Refusals.{refusal_of}
use Rattle.df_catalogue.specs.StagedChanges.{IsStagedChange, IsStagedFor}
use Rattle.df_state.proofs.Legal.{register-accepted}
use Rattle.df_state.proofs.Refusing.{by-reason}
use Rattle.df_catalogue.proofs.StagedFacts.{no-room, not-staged, same-kept, staged-after}
use Rattle.df_catalogue.proofs.catalogue.Catalogue.stage_register.Goals as goal

pub view_over-requires : goal.view_over-requires
view_over-requires g c = (register-accepted c.as_str.result.now c.args.plan c.unstage.new.self.state c.in_ok-check_register.ensures.answer).2

pub returns-in_err-check_register-clause-staged : goal.returns-in_err-check_register-clause-staged
returns-in_err-check_register-clause-staged g c =
    let old = c.args.self.now in
    let mid = c.unstage.new.self in
    let change = Register c.args.name c.args.plan in
    let made = err_from_is_err_and c.from_residual.result c.from_residual.ensures.1 in
    let reason = ap (λ n. refusal_of mid.state (Register n c.args.plan)) (sym c.as_str.ensures) ∙ (c.in_err-check_register.ensures.answer ∙ ap Some (sym made.2)) in
    let refused = by-reason mid.state change made.0 reason in
    subst (λ r. IsStagedChange old change r mid) (sym made.1)
    (staged-after old mid mid change (Err made.0) c.unstage.ensures.state c.unstage.ensures.work c.unstage.ensures.kept
    (not-staged mid mid change made.0 refused c.unstage.ensures.nothing refl refl (same-kept mid) c.unstage.ensures.legal))

pub returns-in_err-live-clause-staged : goal.returns-in_err-live-clause-staged
returns-in_err-live-clause-staged g c =
    let old = c.args.self.now in
    let mid = c.unstage.new.self in
    let change = Register c.args.name c.args.plan in
    let made = err_from_is_err_and c.from_residual-in_err-live.result c.from_residual-in_err-live.ensures.1 in
    let free = subst (λ n. refusal_of mid.state (Register n c.args.plan) ≡ None) c.as_str.ensures c.in_ok-check_register.ensures.answer in
    let refused = subst (RefusedBy mid.state change) (sym made.2) (no-room mid.state c.args.name c.args.plan free) in
    subst (λ r. IsStagedChange old change r mid) (sym made.1)
    (staged-after old mid mid change (Err made.0) c.unstage.ensures.state c.unstage.ensures.work c.unstage.ensures.kept
    (not-staged mid mid change made.0 refused c.unstage.ensures.nothing refl refl (same-kept mid) c.unstage.ensures.legal))

pub returns-in_err-stage_view-clause-staged : goal.returns-in_err-stage_view-clause-staged
returns-in_err-stage_view-clause-staged g c =
    let old = c.args.self.now in
    let mid = c.unstage.new.self in
    let new = c.stage_view.new.self in
    let change = Register c.args.name c.args.plan in
    let made = err_from_is_err_and c.from_residual-in_err-stage_view.result c.from_residual-in_err-stage_view.ensures.1 in
    let free = subst (λ n. refusal_of mid.state (Register n c.args.plan) ≡ None) c.as_str.ensures c.in_ok-check_register.ensures.answer in
    let refused = subst (RefusedBy mid.state change) (sym made.2) (no-room mid.state c.args.name c.args.plan free) in
    subst (λ r. IsStagedChange old change r new) (sym made.1)
    (staged-after old mid new change (Err made.0) c.unstage.ensures.state c.unstage.ensures.work c.unstage.ensures.kept
    (not-staged mid new change made.0 refused c.in_err-stage_view.ensures.nothing c.stage_view.ensures.state c.stage_view.ensures.work c.stage_view.ensures.kept c.stage_view.ensures.legal))

pub returns-clause-staged : goal.returns-clause-staged
returns-clause-staged g c =
    let old = c.args.self.now in
    let mid = c.unstage.new.self in
    let new = c.stage_view.new.self in
    let staged = subst (λ p. IsSomeAnd new.staged (IsStagedFor mid (Register c.args.name p))) c.in_ok-live.ensures.plan c.in_ok-stage_view.ensures.staged in
    let free = subst (λ n. refusal_of mid.state (Register n c.args.plan) ≡ None) c.as_str.ensures c.in_ok-check_register.ensures.answer in
    staged-after old mid new (Register c.args.name c.args.plan) (Ok _) c.unstage.ensures.state c.unstage.ensures.work c.unstage.ensures.kept (record {
      sound = c.in_ok-check_register.ensures.sound;
      accepted = free;
      staged = staged;
      refused = tt;
      nothing = tt;
      state = c.stage_view.ensures.state;
      work = c.stage_view.ensures.work;
      kept = c.stage_view.ensures.kept;
      legal = c.stage_view.ensures.legal;
    })
