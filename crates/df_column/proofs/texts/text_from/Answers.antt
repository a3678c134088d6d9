use Rattle.std.proofs.Common.{◌∙◌, None, map}
use Rattle.df_value.specs.declared.cell.CellType.TheVariants as dtype
use Rattle.df_column.specs.Texts.{text_now}
use Rattle.df_column.specs.ValueCells.{text_cell}
use Rattle.df_column.proofs.PickedCells.{old_cell, new_cell, no_cell}
use Rattle.df_column.proofs.texts.text_from.Goals as goal

pub returns-in-Old : goal.returns-in-Old
returns-in-Old c = old_cell text_cell c.args.old.now c.in-Old.at c.args.column (text_now c.get.result) None c.args.origin c.in-Old.is c.requires.within (c.get.ensures None)

pub returns-in-Some : goal.returns-in-Some
returns-in-Some c =
    let new = new_cell dtype.Text (map text_cell c.args.old.now) c.args.column c.in-New.row c.in-Some.cell.now c.args.origin c.in-New.is c.in-Some.ensures c.requires.fits in
    c.text_of.ensures new.fits ∙ new.is

pub returns-in-None : goal.returns-in-None
returns-in-None c = no_cell (map text_cell c.args.old.now) c.args.column c.in-New.row c.args.origin c.in-New.is c.in-None.ensures
