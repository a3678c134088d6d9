use Rattle.std.proofs.Common.{◌≡◌, ◌++◌, flat_map, take}
use Rattle.std.specs.Prelude.{Some}
use Rattle.std.specs.List.{enumerate_from}
use Rattle.df_value.specs.Rows.{cell_at}
use Rattle.df_page.specs.Cells.{cell_tags}
use Rattle.df_page.specs.Markup.{markup}
use Rattle.df_page.proofs.cells.push_cells.Given as goal

abbrev pub invariant-loop-at : goal.invariant-loop-at
invariant-loop-at l = l.out.items ≡ l.initial.out.items ++ markup (flat_map (λ c. cell_tags c.1 (cell_at (Some c.0) l.row)) (take l.at (enumerate_from 0 l.columns)))
