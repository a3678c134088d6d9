use Rattle.std.proofs.Common.{◌≡◌, ◌++◌, length, take, codes}
use Rattle.std.specs.List.{join_by}
use Rattle.df_print.specs.Printed.{padded_texts, row_texts}
use Rattle.df_print.proofs.printing.push_row.Given as goal

abbrev pub invariant-loop-i : goal.invariant-loop-i
invariant-loop-i l = l.out.items ≡ l.initial.out.items ++ join_by (λ t. t) (codes "  ") (take l.i (padded_texts l.columns l.widths (row_texts (length l.columns) l.row)))
