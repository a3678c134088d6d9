use Rattle.std.proofs.Common.{◌≡◌, ℕ, ◌∙◌, List, Bool, true, false, get_or, map, take, refl, ap, sym}
use Rattle.std.specs.Prelude.{not, Some}
use Rattle.df_frame.specs.Numbers.{has_number}
use Rattle.df_frame.proofs.NumberSetFacts.{doubled-here, doubled-past, number-at, place-within, set-step}
use Rattle.df_frame.proofs.number_sets.first_in_set.Goals as goal

-- what was added was not there, and what was not had been
not-there : (added there : Bool) → added ≡ not there → added ≡ true → there ≡ false
not-there added true e h = cc
not-there added false e h = refl

there-already : (added there : Bool) → added ≡ not there → added ≡ false → there ≡ true
there-already added true e h = refl
there-already added false e h = cc

pub returns-then-not-branch : goal.returns-then-not-branch
returns-then-not-branch g c =
    let number = g.N.HasNumber.number_of in
    let items = c.args.items.now in
    let ns : List ℕ = map number items in
    let i = c.loop-item.item-index in
    let within = place-within number items i c.loop-item-test.true in
    let is = number-at number items i c.item-item.result c.number-number.result c.loop-item-test.true c.item-item.is c.number-number.ensures in
    let there : has_number (take i ns) (get_or ns i 0) ≡ true =
    sym (c.loop-item.invariant.1 (get_or ns i 0)) ∙ rw (← is) (there-already c.in_ok-insert.field-0 _ c.in_ok-insert.ensures.added c.if-not-branch.true) in
    ap Some is ∙ sym (c.loop-item.invariant.0 ∙ doubled-here ns i within there)

pub loop-item-preserved : goal.loop-item-preserved
loop-item-preserved g c =
    let number = g.N.HasNumber.number_of in
    let items = c.args.items.now in
    let ns : List ℕ = map number items in
    let i = c.loop-item.item-index in
    let within = place-within number items i c.loop-item-test.true in
    let is = number-at number items i c.item-item.result c.number-number.result c.loop-item-test.true c.item-item.is c.number-number.ensures in
    let out : has_number (take i ns) (get_or ns i 0) ≡ false =
    sym (c.loop-item.invariant.1 (get_or ns i 0)) ∙ rw (← is) (not-there c.in_ok-insert.field-0 _ c.in_ok-insert.ensures.added c.if-not-branch.false) in (
      c.loop-item.invariant.0 ∙ doubled-past ns i within out,
      set-step c.loop-item.seen c.insert.new.self ns i c.number-number.result within is c.in_ok-insert.ensures.updates c.loop-item.invariant.1,
    )
