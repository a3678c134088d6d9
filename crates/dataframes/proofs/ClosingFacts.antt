-- Why a service has no totals, step by step.
use Rattle.std.proofs.Common.{◌≡◌, ℕ, List, refl, subst, sym}
use Rattle.std.specs.Prelude.{Result, Ok, Err, IfErr}
use Rattle.df_plan.specs.CheckedParts.{CheckedParts}
use Rattle.df_value.specs.declared.cell.CellType.{CellType}
use Rattle.df_state.specs.declared.change.Change.TheVariants.{Register}
use Rattle.df_state.specs.declared.state.State.{State}
use Rattle.df_versions.specs.Answered.{IsAccepted}
use Rattle.dataframes.specs.Books.{BooksParts, IsAnswered}
use Rattle.dataframes.specs.Closing.{IsViewAdded}

pub if-err : {A E : Type 0} (r : Result A E) (P : E → Type 0) (Q : E → Type 0) → IfErr r P → ((e : E) → P e → Q e) → IfErr r Q
if-err (Ok a) P Q p f = tt
if-err (Err e) P Q p f = f e p

module _ {J : Type 0} where
  pub view-added :
      (schemas : List (List (List ℕ × CellType))) (old new : BooksParts) (name : List ℕ) (plan : CheckedParts) (view : List ℕ × CheckedParts) (told : List State) →
      (name, plan) ≡ view → IsAnswered {J = J} schemas old (Register name plan) (Ok told) new → IsViewAdded old view new
  view-added schemas old new name plan view told e h =
      subst (IsViewAdded old view) (sym h.1)
      (record { accepted = subst (λ v. IsAccepted told (Register v.0 v.1)) e h.0.answer.accepted; later = h.0.answer.later; desks = refl })
