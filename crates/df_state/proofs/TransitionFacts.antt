-- Transitions of a state and of desks, by what was answered.
use Rattle.std.proofs.Common.{◌≡◌, ◌∙◌, List, length, map, ap, sym}
use Rattle.std.specs.Prelude.{Result, Ok, Err}
use Rattle.std.specs.List.{range_with_len}
use Rattle.df_state.specs.declared.state.State.{State}
use Rattle.df_state.specs.declared.change.Change.{Change}
use Rattle.df_state.specs.declared.fault.CatalogueFault.{CatalogueFault}
use Rattle.df_state.specs.Desks.{AreInOrder, DeskParts}
use Rattle.df_state.specs.Transitions.{IsTransition, IsTransitionOfDesks}
use Rattle.df_state.proofs.DeskFacts.{frames-after}

frames-kept : {T : Type 0} (desks held : List DeskParts) (c : Change) (r : Result T CatalogueFault) → IsTransitionOfDesks desks c r held → map (λ d. d.frame) held ≡ map (λ d. d.frame) desks
frames-kept desks held c (Ok x) g = ap (map (λ d. d.frame)) g.counted ∙ frames-after desks c
frames-kept desks held c (Err f) g = ap (map (λ d. d.frame)) g.same

-- a change leaves the schemas
pub schemas-kept : {T : Type 0} (s new : State) (c : Change) (r : Result T CatalogueFault) → IsTransition s c r new → new.schemas ≡ s.schemas
schemas-kept s new c (Ok x) h = ap (λ (t : State). t.schemas) h.after
schemas-kept s new c (Err f) h = ap (λ (t : State). t.schemas) h.same

-- and the desks in order
pub in-order-after :
    {T : Type 0} (s new : State) (desks held : List DeskParts) (c : Change) (r : Result T CatalogueFault) →
    IsTransition s c r new → IsTransitionOfDesks desks c r held → AreInOrder desks s → AreInOrder held new
in-order-after s new desks held c r h g order =
    frames-kept desks held c r g ∙ (order ∙ ap (λ ss. range_with_len 0 (length ss)) (sym (schemas-kept s new c r h)))
