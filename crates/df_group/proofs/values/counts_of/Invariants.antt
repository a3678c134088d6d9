use Rattle.std.proofs.Common.{◌≡◌, take}
use Rattle.df_group.specs.Totals as totals_spec
use Rattle.df_group.proofs.values.counts_of.Given as goal

abbrev pub invariant-loop-row : goal.invariant-loop-row
invariant-loop-row l = l.counts ≡ totals_spec.counts_of l.index (take l.row-index l.rows)
