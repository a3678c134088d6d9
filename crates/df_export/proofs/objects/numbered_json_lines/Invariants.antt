use Rattle.std.proofs.Common.{◌≡◌, ◌++◌, drop, length}
use Rattle.df_export.specs.JsonLines.{json_of}
use Rattle.df_export.specs.Numbered.{numbered_columns, numbered_rows}
use Rattle.df_export.proofs.objects.numbered_json_lines.Given as goal

abbrev pub invariant-loop-number : goal.invariant-loop-number
invariant-loop-number l =
    l.out.items ++ json_of (numbered_columns l.columns) (numbered_rows (drop (length l.yielded) l.numbers) (drop (length l.yielded) l.rows))
    ≡ json_of (numbered_columns l.columns) (numbered_rows l.numbers l.rows)
