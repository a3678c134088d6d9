use Rattle.std.proofs.Common.{◌≡◌, map, take}
use Rattle.std.specs.FinMap as finite
use Rattle.df_session.proofs.sections.rows_at.Given as goal

abbrev pub invariant-loop-at : goal.invariant-loop-at
invariant-loop-at l = l.rows.items ≡ map (λ e. finite.get l.table.rows e.0) (take l.at (finite.entries l.shown.rows))
