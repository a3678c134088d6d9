use Rattle.std.proofs.Common.{◌≡◌, ◌++◌, take, codes}
use Rattle.std.specs.List.{join_by}
use Rattle.df_print.specs.Printed.{header_texts, padded_texts}
use Rattle.df_print.proofs.printing.push_names.Given as goal

abbrev pub invariant-loop-i : goal.invariant-loop-i
invariant-loop-i l = l.out.items ≡ l.initial.out.items ++ join_by (λ t. t) (codes "  ") (take l.i (padded_texts l.columns l.widths (header_texts l.columns)))
