use Rattle.std.proofs.Common.{ap, ◌∙◌, sym, None, arith}
use Rattle.df_value.specs.CellOrder.{cell_cmp}
use Rattle.df_column.specs.ValueCells.{text_cell}
use Rattle.df_column.proofs.Places.{mapped_at, mapped_length}
use Rattle.df_column.proofs.texts.Texts.compare_with.Goals as goal

pub get-requires : goal.get-requires
get-requires c = let l = mapped_length text_cell c.args.self.now in omega (arith, l, c.requires)

pub returns : goal.returns
returns c = λ d.
    let l = mapped_length text_cell c.args.self.now in
    c.compare_text.ensures
    ∙ ap (λ t. cell_cmp (text_cell t) c.args.cell.now) (c.get.ensures None)
    ∙ ap (λ t. cell_cmp t c.args.cell.now) (sym (mapped_at text_cell c.args.self.now c.args.at d None (omega (arith, l, c.requires))))
