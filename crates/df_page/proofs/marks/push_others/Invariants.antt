use Rattle.std.proofs.Common.{◌≡◌, ◌++◌, codes, flat_map, take}
use Rattle.df_print.specs.Printed.{cell_text}
use Rattle.df_page.proofs.marks.push_others.Given as goal

abbrev pub invariant-loop-cell : goal.invariant-loop-cell
invariant-loop-cell l = l.text.items ≡ l.initial.text.items ++ flat_map (λ v. codes ", " ++ cell_text v) (take l.cell-index l.cells)
