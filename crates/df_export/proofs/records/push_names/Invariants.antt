use Rattle.std.proofs.Common.{◌≡◌, ◌++◌, take}
use Rattle.df_export.specs.CsvTables.{header_cells, rest_of_line}
use Rattle.df_export.proofs.records.push_names.Given as goal

abbrev pub invariant-loop-column : goal.invariant-loop-column
invariant-loop-column l = l.out.items ≡ l.initial.out.items ++ rest_of_line (header_cells (take l.column-index l.columns))
