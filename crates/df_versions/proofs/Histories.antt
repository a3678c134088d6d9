-- One more step makes a longer history, and all states of a history are legal.
use Rattle.std.proofs.Common.{◌≡◌, ℕ, List, [], ◌∷◌, ◌++◌, Some, arith, refl, ap, sym, subst}
use Rattle.df_value.specs.declared.cell.CellType.{CellType}
use Rattle.std.specs.List.{AllByRecursion}
use Rattle.df_state.specs.declared.change.Change.{Change}
use Rattle.df_state.specs.declared.state.State.{State}
use Rattle.df_state.specs.States.{IsLegal}
use Rattle.df_state.proofs.Legal.{legal-after}
use Rattle.df_versions.specs.Histories.{Step, Steps, StepBy, StepsBy, AreAllowed, IsHistory, IsHistoryOver, MayFollow, MayFollowBy, last_of, last_state}

steps-snoc : (o : State) (later : List State) (t : State) → Steps o later → Step (last_of o later) t → Steps o (later ++ t ∷ [])
steps-snoc o [] t h step = (step, tt)
steps-snoc o (x ∷ xs) t h step = (h.0, steps-snoc x xs t h.1 step)

pub history-more : (log : List State) (t : State) → IsHistory log → MayFollow log t → IsHistory (log ++ t ∷ [])
history-more [] t h may = (may, tt)
history-more (o ∷ later) t h may = (h.0, steps-snoc o later t h.1 may)

-- a lawful history that is longer by a state is over the same schemas
pub over-longer : (schemas : List (List (List ℕ × CellType))) (log : List State) (t : State) → IsHistoryOver schemas log → IsHistory (log ++ t ∷ []) → IsHistoryOver schemas (log ++ t ∷ [])
over-longer schemas [] t h lawful = absurd (omega (arith, h.begun))
over-longer schemas (o ∷ later) t h lawful = record { lawful = lawful; begun = omega arith; of_schemas = h.of_schemas }

last-snoc : (o : State) (later : List State) (t : State) → last_of o (later ++ t ∷ []) ≡ t
last-snoc o [] t = refl
last-snoc o (x ∷ xs) t = last-snoc x xs t

pub last_state-more : (log : List State) (t : State) → last_state (log ++ t ∷ []) ≡ Some t
last_state-more [] t = refl
last_state-more (o ∷ later) t = ap Some (last-snoc o later t)

split_last : (o : State) (later : List State) → (front : List State) × (o ∷ later ≡ front ++ last_of o later ∷ [])
split_last o [] = ([], refl)
split_last o (x ∷ xs) = let r = split_last x xs in (o ∷ r.0, ap (λ l. o ∷ l) r.1)

-- a history that ends with s is some states, and then s
pub ends_split : (log : List State) (s : State) → last_state log ≡ Some s → (front : List State) × (log ≡ front ++ s ∷ [])
ends_split [] s e = absurd cc
ends_split (o ∷ later) s e = let r = split_last o later in let same : last_of o later ≡ s = cc in (r.0, subst (λ z. o ∷ later ≡ r.0 ++ z ∷ []) same r.1)

pub step-legal : (s t : State) → IsLegal s → Step s t → IsLegal t
step-legal s t h step = subst IsLegal (sym step.3) (legal-after s step.0 h step.1 step.2)

steps-legal : (s : State) (later : List State) → IsLegal s → Steps s later → AllByRecursion IsLegal later
steps-legal s [] h steps = tt
steps-legal s (t ∷ ts) h steps = let next = step-legal s t h steps.0 in (next, steps-legal t ts next steps.1)

-- every state of a history is legal
pub history-legal : (log : List State) → IsHistory log → AllByRecursion IsLegal log
history-legal [] h = tt
history-legal (o ∷ later) h = (h.0.0, steps-legal o later h.0.0 h.1)

last-legal : (o : State) (later : List State) → IsLegal o → AllByRecursion IsLegal later → IsLegal (last_of o later)
last-legal o [] h all = h
last-legal o (t ∷ ts) h all = last-legal t ts all.0 all.1

pub ends-legal : (log : List State) (s : State) → IsHistory log → last_state log ≡ Some s → IsLegal s
ends-legal [] s h e = absurd cc
ends-legal (o ∷ later) s h e = let same : last_of o later ≡ s = cc in subst IsLegal same (last-legal o later h.0.0 (history-legal (o ∷ later) h).1)

-- a state that may stand next is legal
pub follower-legal : (log : List State) (t : State) → IsHistory log → MayFollow log t → IsLegal t
follower-legal log t h may = ends-legal (log ++ t ∷ []) t (history-more log t h may) (last_state-more log t)

module _ (allows : Change → Type 0) where
  -- an allowed step is a step
  step-any : (s t : State) → StepBy allows s t → Step s t
  step-any s t step = (step.0, step.2, step.3, step.4)

  pub follows-any : (log : List State) (t : State) → MayFollowBy allows log t → MayFollow log t
  follows-any [] t may = may
  follows-any (o ∷ later) t may = step-any (last_of o later) t may

  pub step-follows-by : (log : List State) (s t : State) → last_state log ≡ Some s → StepBy allows s t → MayFollowBy allows log t
  step-follows-by [] s t e step = absurd cc
  step-follows-by (o ∷ later) s t e step = let same : s ≡ last_of o later = cc in subst (λ z. StepBy allows z t) same step

  allowed-snoc : (o : State) (later : List State) (t : State) → StepsBy allows o later → StepBy allows (last_of o later) t → StepsBy allows o (later ++ t ∷ [])
  allowed-snoc o [] t h step = (step, tt)
  allowed-snoc o (x ∷ xs) t h step = (h.0, allowed-snoc x xs t h.1 step)

  -- with one more allowed step all are allowed
  pub allowed-more : (log : List State) (t : State) → AreAllowed allows log → MayFollowBy allows log t → AreAllowed allows (log ++ t ∷ [])
  allowed-more [] t h may = tt
  allowed-more (o ∷ later) t h may = allowed-snoc o later t h may
