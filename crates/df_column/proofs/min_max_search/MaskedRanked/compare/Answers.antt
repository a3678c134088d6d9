use Rattle.std.proofs.Common.{◌∙◌, None, ap, arith, sym}
use Rattle.df_value.specs.CellOrder.{cell_cmp}
use Rattle.df_column.proofs.Places.{mapped_at, mapped_length}
use Rattle.df_column.proofs.min_max_search.MaskedRanked.compare.Goals as goal

pub get-requires : goal.get-requires
get-requires g c = let l = mapped_length g.T.CellValue.cell_of c.args.self.now in omega (arith, l, c.requires.first)

pub get-requires-2 : goal.get-requires-2
get-requires-2 g c = let l = mapped_length g.T.CellValue.cell_of c.args.self.now in omega (arith, l, c.requires.second)

pub returns : goal.returns
returns g c = λ d.
    let cell_of = g.T.CellValue.cell_of in
    let l = mapped_length cell_of c.args.self.now in
    let first = ap cell_of (c.get.ensures None) ∙ sym (mapped_at cell_of c.args.self.now c.args.a d None (omega (arith, l, c.requires.first))) in
    let second = ap cell_of (c.get-2.ensures None) ∙ sym (mapped_at cell_of c.args.self.now c.args.b d None (omega (arith, l, c.requires.second))) in
    c.compare_values.ensures ∙ (λ i. cell_cmp (first i) (second i))
