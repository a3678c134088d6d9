use Rattle.std.proofs.Common.{◌≡◌, ◌++◌, take}
use Rattle.df_export.specs.CsvTables.{rest_of_line}
use Rattle.df_export.proofs.fields.push_rest.Given as goal

abbrev pub invariant-loop-cell : goal.invariant-loop-cell
invariant-loop-cell l = l.out.items ≡ l.initial.out.items ++ rest_of_line (take l.cell-index l.cells)
