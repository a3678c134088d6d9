use Rattle.std.proofs.Common.{ap, ◌∙◌, sym, None, arith}
use Rattle.df_column.proofs.Places.{mapped_at, mapped_length}
use Rattle.df_column.proofs.masked.Masked.cell.Goals as goal

pub get-requires : goal.get-requires
get-requires g c = let l = mapped_length g.T.CellValue.cell_of c.args.self.now in omega (arith, l, c.requires)

pub returns : goal.returns
returns g c = λ d.
    let l = mapped_length g.T.CellValue.cell_of c.args.self.now in
    c.to_cell.ensures ∙ ap g.T.CellValue.cell_of (c.get.ensures None)
    ∙ sym (mapped_at g.T.CellValue.cell_of c.args.self.now c.args.at d None (omega (arith, l, c.requires)))
