use Rattle.std.proofs.Common.{◌≡◌, ◌++◌, length, take, flat_map}
use Rattle.df_print.specs.Printed.{printed_line, row_texts}
use Rattle.df_print.proofs.printing.push_rows.Given as goal

abbrev pub invariant-loop-row : goal.invariant-loop-row
invariant-loop-row l = l.out.items ≡ l.initial.out.items ++ flat_map (λ row. printed_line l.columns l.widths (row_texts (length l.columns) row)) (take l.row-index l.rows)
