use Rattle.std.proofs.Common.{◌≡◌, drop}
use Rattle.df_value.specs.Rows.{row_fits}
use Rattle.df_value.proofs.schema.fits_columns.Given as goal

abbrev pub invariant-loop-i : goal.invariant-loop-i
invariant-loop-i l = row_fits l.columns l.cells ≡ row_fits (drop l.i l.columns) (drop l.i l.cells)
