use Rattle.std.proofs.Common.{ap, ◌∙◌, sym, None, arith}
use Rattle.df_value.specs.CellEq.{cell_eq}
use Rattle.df_column.specs.ValueCells.{text_cell}
use Rattle.df_column.proofs.Places.{mapped_at, mapped_length}
use Rattle.df_column.proofs.texts.Texts.is_cell.Goals as goal

pub get-requires : goal.get-requires
get-requires c = let l = mapped_length text_cell c.args.self.now in omega (arith, l, c.requires)

pub returns : goal.returns
returns c = λ d.
    let l = mapped_length text_cell c.args.self.now in
    c.is_cell_of.ensures
    ∙ ap (λ t. cell_eq (text_cell t) c.args.cell.now) (c.get.ensures None)
    ∙ ap (λ t. cell_eq t c.args.cell.now) (sym (mapped_at text_cell c.args.self.now c.args.at d None (omega (arith, l, c.requires))))
