use Rattle.std.proofs.Common.{◌≡◌, ◌++◌, flat_map, take}
use Rattle.std.specs.List.{enumerate_from}
use Rattle.df_page.specs.Markup.{markup}
use Rattle.df_page.specs.Sections.{placed_tags}
use Rattle.df_page.proofs.sections.push_each_row.Given as goal

abbrev pub invariant-loop-at : goal.invariant-loop-at
invariant-loop-at l = l.out.items ≡ l.initial.out.items ++ markup (flat_map (placed_tags l.columns l.before) (take l.at (enumerate_from 0 l.rows)))
