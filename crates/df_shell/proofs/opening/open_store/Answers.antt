use Rattle.std.proofs.Common.{◌≡◌, ◌∙◌, ap, length, map, replicate, subst, sym}
use Rattle.std.specs.Prelude.{is_none}
use Rattle.df_state.specs.declared.state.State.{State}
use Rattle.df_shell.proofs.NextNumberFacts.{numbers-empty}
use Rattle.df_shell.specs.NextNumbers.{next_numbers}
use Rattle.df_state.specs.States.{opening_of}
use Rattle.df_text.specs.declared.document.FrameSpec.{FrameSpec}
use Rattle.df_session.proofs.AreMadeFacts.{all-within}
use Rattle.df_shell.proofs.MadeFacts.{all-weaker}
use Rattle.df_shell.specs.Changes.{IsMade}
use Rattle.df_session.specs.Filling.{AreMade, opening_changes}
use Rattle.df_shell.specs.Opening.{empty_catalogue}
use Rattle.df_shell.proofs.opening.open_store.Goals as goal

pub invariant_of-store : goal.invariant_of-store
invariant_of-store g c = record {
  in_order = c.in_ok-catalogue.ensures.in_order;
  nothing_staged = ap is_none c.in_ok-catalogue.ensures.staged;
  numbered =
      c.in_ok-numbers.ensures
      ∙ (ap (λ n. replicate n 0) c.len.ensures
      ∙ (sym (numbers-empty (length c.in_ok-schemas.schemas)) ∙ ap (λ (s : State). next_numbers s.frames) (sym c.in_ok-catalogue.ensures.opening)));
}

pub returns-in-Ok : goal.returns-in-Ok
returns-in-Ok g c =
    let d = c.args.definitions.now in
    let n = c.fill.new.store.catalogue in
    let state = c.in_ok-catalogue.ensures.opening ∙ ap opening_of (c.in_ok-schemas.ensures ∙ ap (map (λ (f : FrameSpec). f.schema)) c.as_slice.ensures) in
    let start : c.in_ok-catalogue.catalogue ≡ empty_catalogue d = λ i. record {
      state = state i;
      work = c.in_ok-catalogue.ensures.work i;
      staged = c.in_ok-catalogue.ensures.staged i;
      keeps = c.in_ok-catalogue.ensures.keeps i;
      changes = c.in_ok-catalogue.ensures.changes i;
    } in
    subst (λ s. AreMade IsMade s n (opening_changes d c.args.pieces)) start
    (all-within IsMade (λ s. s.catalogue) _ c.fill.new.store (opening_changes d c.args.pieces)
    (all-weaker _ (λ a b change. IsMade a.catalogue b.catalogue change) (λ a b change made. made.0) _ c.fill.new.store (opening_changes d c.args.pieces) c.in-Ok.ensures))
