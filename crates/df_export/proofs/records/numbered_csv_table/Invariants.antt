use Rattle.std.proofs.Common.{◌≡◌, ◌++◌, drop, flat_map, length}
use Rattle.df_export.specs.CsvTables.{csv_line}
use Rattle.df_export.specs.Numbered.{numbered_rows}
use Rattle.df_export.proofs.records.numbered_csv_table.Given as goal

abbrev pub invariant-loop-number : goal.invariant-loop-number
invariant-loop-number l =
    l.out.items ++ flat_map csv_line (numbered_rows (drop (length l.yielded) l.numbers) (drop (length l.yielded) l.rows))
    ≡ l.initial.out.items ++ flat_map csv_line (numbered_rows l.numbers l.rows)
