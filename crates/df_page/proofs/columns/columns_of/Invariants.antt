use Rattle.std.proofs.Common.{◌≡◌, map, take}
use Rattle.std.specs.List.{enumerate_from}
use Rattle.df_page.specs.Bars.{column_at}
use Rattle.df_page.proofs.columns.columns_of.Given as goal

abbrev pub invariant-loop-at : goal.invariant-loop-at
invariant-loop-at l = l.columns.items ≡ map (λ c. column_at c.0 c.1.1 l.rows) (take l.at (enumerate_from 0 l.schema))
