use Rattle.std.proofs.Common.{◌≡◌, List, map, take}
use Rattle.std.specs.FinMap as finite
use Rattle.df_value.specs.declared.cell.Cell.{Cell}
use Rattle.df_group.specs.Totals.{Lead, total_of, totals_over}
use Rattle.df_group.proofs.total.moved_totals.Given as goal

abbrev pub invariant-loop-total : goal.invariant-loop-total
invariant-loop-total l =
    (old : List (List Cell)) → l.totals ≡ totals_over l.totals old → Lead old l.entries (finite.values l.rows.rows)
    → l.moved.items ≡ map (λ t. total_of t.sums.index t.values.index (finite.values l.rows.rows)) (take l.total-index l.totals)
