use Rattle.std.proofs.Common.{◌≡◌, drop}
use Rattle.df_csv.proofs.TypedWalks.{after_cells}
use Rattle.df_csv.specs.Records.{record_at}
use Rattle.df_csv.specs.Typed.{row_from, row_of}
use Rattle.df_csv.proofs.typed.type_row.Given as goal

abbrev pub invariant-loop-i : goal.invariant-loop-i
invariant-loop-i l = row_of l.columns (record_at l.records l.row) ≡ after_cells l.cells.items (row_from l.i (drop l.i l.columns) (drop l.i (record_at l.records l.row)))
