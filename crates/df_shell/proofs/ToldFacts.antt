-- What a session is told of the last change, from what the store knows of it.
use Rattle.std.proofs.Common.{◌≡◌, ◌∙◌, ◌+◌, ◌-◌, ℕ, List, arith, subst, sym}
use Rattle.std.specs.Prelude.{Option, Some, None, Result}
use Rattle.std.specs.Global.{Vec}
use Rattle.df_state.specs.declared.state.State.{State}
use Rattle.df_session.specs.declared.refusal.Refusal.{Refusal}
use Rattle.df_shell.specs.Changing.{IsKnown}
use Rattle.df_shell.specs.ToldChanges.{TellsInHall}

some-same : {A : Type 0} (a b : A) → Some a ≡ Some b → a ≡ b
some-same a b e = cc

-- the number before another
pub number-before : (n l : ℕ) → n + 1 ≡ l → n ≡ l - 1
number-before n l e = omega (arith, e)

-- what is told over the history that was told last is told over the history that is known
pub known-tells :
    (told : Option (List State)) (known t : List State) (name : List ℕ) (r : Result (Option (Vec ℕ)) Refusal) → IsKnown told known → told ≡ Some t →
    TellsInHall t name r → TellsInHall known name r
known-tells None known t name r k e h = absurd (cc e)
known-tells (Some x) known t name r k e h = subst (λ s. TellsInHall s name r) (sym (k ∙ some-same x t e)) h
