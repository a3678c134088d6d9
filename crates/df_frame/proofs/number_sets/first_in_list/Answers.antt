use Rattle.std.proofs.Common.{ℕ, ◌∙◌, List, map, sym, ap}
use Rattle.std.specs.Prelude.{Some}
use Rattle.df_frame.proofs.NumberSetFacts.{doubled-here, doubled-past, earlier, number-at, place-within}
use Rattle.df_frame.proofs.number_sets.first_in_list.Goals as goal

pub returns-then-stands_in : goal.returns-then-stands_in
returns-then-stands_in g c =
    let number = g.N.HasNumber.number_of in
    let items = c.args.items.now in
    let ns : List ℕ = map number items in
    let i = c.loop-i.i in
    ap Some (number-at number items i c.index-items-i.result c.number-number.result c.loop-i-test.true c.index-items-i.is c.number-number.ensures)
    ∙ sym (c.loop-i.invariant
    ∙ doubled-here ns i (place-within number items i c.loop-i-test.true)
    (earlier number items i c.index-items-i.result c.number-number.result c.stands_in.result c.loop-i-test.true c.index-items-i.is c.number-number.ensures c.stands_in.ensures
    ∙ c.if-stands_in.true))

pub loop-i-preserved : goal.loop-i-preserved
loop-i-preserved g c =
    let number = g.N.HasNumber.number_of in
    let items = c.args.items.now in
    let ns : List ℕ = map number items in
    let i = c.loop-i.i in
    c.loop-i.invariant
    ∙ doubled-past ns i (place-within number items i c.loop-i-test.true)
    (earlier number items i c.index-items-i.result c.number-number.result c.stands_in.result c.loop-i-test.true c.index-items-i.is c.number-number.ensures c.stands_in.ensures
    ∙ c.if-stands_in.false)
