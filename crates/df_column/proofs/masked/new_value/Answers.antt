use Rattle.std.proofs.Common.{◌∙◌, ap, sym}
use Rattle.std.proofs.lemmas.Option.{get_or_from_slice_get}
use Rattle.df_value.specs.Cells.{fits_dtype}
use Rattle.df_value.specs.declared.cell.Cell.TheVariants as cell
use Rattle.df_column.proofs.PickedCells.{past_end}
use Rattle.df_column.proofs.masked.new_value.Goals as goal

pub returns-in-None : goal.returns-in-None
returns-in-None g c = g.met.T.CellValue.null ∙ sym (past_end c.args.row.now c.args.column cell.Null (sym c.in-None.ensures))

pub returns-in-Some : goal.returns-in-Some
returns-in-Some g c =
    let here = get_or_from_slice_get c.args.row.now c.args.column c.in-Some.cell.now cell.Null (sym c.in-Some.ensures) in
    c.from_cell.ensures (ap (fits_dtype g.T.CellValue.dtype) (sym here) ∙ c.requires) ∙ sym here
