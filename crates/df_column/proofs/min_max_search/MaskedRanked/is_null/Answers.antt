use Rattle.std.proofs.Common.{◌∙◌, None, ap, arith, sym}
use Rattle.df_column.specs.MinMaxCells.{is_null}
use Rattle.df_column.proofs.CellTests.{null_value}
use Rattle.df_column.proofs.Places.{mapped_at, mapped_length}
use Rattle.df_column.proofs.min_max_search.MaskedRanked.is_null.Goals as goal

pub get-requires : goal.get-requires
get-requires g c = let l = mapped_length g.T.CellValue.cell_of c.args.self.now in omega (arith, l, c.requires)

pub returns : goal.returns
returns g c = λ d.
    let cell_of = g.T.CellValue.cell_of in
    let l = mapped_length cell_of c.args.self.now in
    null_value cell_of g.met.T.CellValue.null g.met.T.CellValue.some c.get.result c.is_none.result c.is_none.ensures
    ∙ ap (λ v. is_null (cell_of v)) (c.get.ensures None)
    ∙ ap is_null (sym (mapped_at cell_of c.args.self.now c.args.at d None (omega (arith, l, c.requires))))
