use Rattle.std.proofs.Common.{◌≡◌, ◌++◌, flat_map, take}
use Rattle.df_export.specs.CsvTables.{csv_line}
use Rattle.df_export.proofs.records.csv_table.Given as goal

abbrev pub invariant-loop-row : goal.invariant-loop-row
invariant-loop-row l = l.out.items ≡ l.initial.out.items ++ flat_map csv_line (take l.row-index l.rows)
