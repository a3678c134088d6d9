-- Why the registration of a view, before any chunk is made, gives a load up.
use Rattle.std.proofs.Common.{◌≡◌, ◌∙◌, ℕ, List, ap, arith, subst, sym, Err, Some}
use Rattle.std.specs.Prelude.{slice_get, take, unwrap_or}
use Rattle.df_plan.specs.CheckedParts.{CheckedParts}
use Rattle.df_state.specs.Refusals.{refusal_of}
use Rattle.df_state.specs.declared.change.Change.TheVariants.{Register}
use Rattle.df_state.specs.declared.state.State.{State}
use Rattle.df_versions.specs.Answered.{AnswersChange, ChangesHistory, IsReason}
use Rattle.df_versions.specs.Histories.{last_state}
use Rattle.df_versions.specs.declared.fault.ChangeFault.{ChangeFault}
use Rattle.df_versions.specs.declared.fault.ChangeFault.TheVariants as change
use Rattle.df_versions.proofs.Histories.{last_state-more}
use Rattle.df_store.specs.declared.fault.LoadCause.{LoadCause}
use Rattle.df_store.specs.Faults.{IsCauseOfView, IsCauseOfViews, cause_of_register}
use Rattle.df_store.specs.Headings.{HasLastViews}

module _ {J : Type 0} where
  of-reason :
      (history : List State) (floor : ℕ) (s : State) (view : List ℕ × CheckedParts) (f : ChangeFault J) → floor ≡ 0 → last_state history ≡ Some s →
      IsReason history floor (Register view.0 view.1) f →
      IsCauseOfView s view (cause_of_register f)
  of-reason history floor s view (change.Refused g told) none ends why =
      let at = why.0.1 in
      let last : Some at.1 ≡ Some s = sym (last_state-more at.0 at.1) ∙ (ap last_state (sym at.3 ∙ why.2) ∙ ends) in
      let same : at.1 ≡ s = ap (λ o. unwrap_or o s) last in
      subst (λ (t : State). refusal_of t (Register view.0 view.1) ≡ Some g) same at.2
  of-reason history floor s view change.Memory none ends why = tt
  of-reason history floor s view change.Spent none ends why = tt
  of-reason history floor s view change.Ahead none ends why = absurd (omega (arith, none, why))

  -- a copy of a view was not registered
  pub of-copy :
      (old new : List State) (floor : ℕ) (s : State) (view : List ℕ × CheckedParts) (name : List ℕ) (plan : CheckedParts) (f : ChangeFault J) (cause : LoadCause) →
      floor ≡ 0 → name ≡ view.0 → plan ≡ view.1 → AnswersChange old floor (Register name plan) (Err f) → ChangesHistory old (Err f) new → last_state new ≡ Some s → cause ≡ cause_of_register f →
      IsCauseOfView s view cause
  of-copy old new floor s view name plan f cause none is same answer changes ends e =
      let why = subst (λ (p : CheckedParts). IsReason {J = J} old floor (Register view.0 p) f) same
      (subst (λ (n : List ℕ). IsReason {J = J} old floor (Register n plan) f) is answer.refused) in
      subst (IsCauseOfView s view) (sym e) (of-reason old floor s view f none (ap last_state (sym changes.same) ∙ ends) why)

-- one of the views was not, behind those before it
pub of-views :
    (s : State) (views : List (List ℕ × CheckedParts)) (at : ℕ) (view : List ℕ × CheckedParts) (cause : LoadCause) → slice_get views at ≡ Some view →
    HasLastViews (take at views) s → IsCauseOfView s view cause → IsCauseOfViews s views cause
of-views s views at view cause given last h = (at, view, given, last, h)
