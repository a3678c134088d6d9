use Rattle.std.proofs.Common.{ap, ◌∙◌, sym, None, arith}
use Rattle.df_value.specs.declared.cell.Cell.TheVariants as cell
use Rattle.df_column.specs.ValueCells.{text_cell}
use Rattle.df_column.proofs.Places.{mapped_at, mapped_length}
use Rattle.df_column.proofs.texts.Texts.cell.Goals as goal

pub get-requires : goal.get-requires
get-requires c = let l = mapped_length text_cell c.args.self.now in omega (arith, l, c.requires)

pub returns-in_ok-from_str-in-Some : goal.returns-in_ok-from_str-in-Some
returns-in_ok-from_str-in-Some c = λ d.
    let l = mapped_length text_cell c.args.self.now in
    ap cell.Text c.in_ok-from_str-in-Some.ensures
    ∙ ap text_cell (c.in-Some.ensures None)
    ∙ sym (mapped_at text_cell c.args.self.now c.args.at d None (omega (arith, l, c.requires)))

pub returns-in-None : goal.returns-in-None
returns-in-None c = λ d.
    let l = mapped_length text_cell c.args.self.now in
    ap text_cell (c.in-None.ensures None) ∙ sym (mapped_at text_cell c.args.self.now c.args.at d None (omega (arith, l, c.requires)))
