use Rattle.std.proofs.Common.{ap, ◌∙◌, sym, None, arith, map}
use Rattle.std.specs.Prelude.{slice_index_or}
use Rattle.df_value.specs.CellOrders.{to_itself}
use Rattle.df_value.specs.CellOrder.{cell_cmp}
use Rattle.df_column.specs.ValueCells.{text_cell}
use Rattle.df_column.proofs.Places.{mapped_at, mapped_length}
use Rattle.df_column.proofs.texts.TextsRanked.compare.Goals as goal

pub get-requires : goal.get-requires
get-requires c = let l = mapped_length text_cell c.args.self.now in omega (arith, l, c.requires.first)

pub get-requires-2 : goal.get-requires-2
get-requires-2 c = let l = mapped_length text_cell c.args.self.now in omega (arith, l, c.requires.second)

pub are_known_same-requires-clause-first : goal.are_known_same-requires-clause-first
are_known_same-requires-clause-first c = let l = mapped_length text_cell c.args.self.now in omega (arith, l, c.requires.first)

pub are_known_same-requires-clause-second : goal.are_known_same-requires-clause-second
are_known_same-requires-clause-second c = let l = mapped_length text_cell c.args.self.now in omega (arith, l, c.requires.second)

pub returns-then-are_known_same : goal.returns-then-are_known_same
returns-then-are_known_same c = λ d.
    let l = mapped_length text_cell c.args.self.now in
    let first = sym (mapped_at text_cell c.args.self.now c.args.a d None (omega (arith, l, c.requires.first))) in
    let second = sym (mapped_at text_cell c.args.self.now c.args.b d None (omega (arith, l, c.requires.second))) in
    let same = sym first ∙ (ap text_cell (c.are_known_same.ensures c.if-are_known_same.true None) ∙ second) in
    sym (to_itself (slice_index_or (map text_cell c.args.self.now) c.args.a d)) ∙ ap (λ y. cell_cmp (slice_index_or (map text_cell c.args.self.now) c.args.a d) y) same

pub returns : goal.returns
returns c = λ d.
    let l = mapped_length text_cell c.args.self.now in
    let first = ap text_cell (c.get.ensures None) ∙ sym (mapped_at text_cell c.args.self.now c.args.a d None (omega (arith, l, c.requires.first))) in
    let second = ap text_cell (c.get-2.ensures None) ∙ sym (mapped_at text_cell c.args.self.now c.args.b d None (omega (arith, l, c.requires.second))) in
    c.compare_texts.ensures ∙ (λ i. cell_cmp (first i) (second i))
