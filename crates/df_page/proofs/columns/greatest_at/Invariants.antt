use Rattle.std.proofs.Common.{◌≡◌, take}
use Rattle.df_page.specs.Bars as shown
use Rattle.df_page.proofs.columns.greatest_at.Given as goal

abbrev pub invariant-loop-row : goal.invariant-loop-row
invariant-loop-row l = l.greatest ≡ shown.greatest_at l.at (take l.row-index l.rows)
