use Rattle.std.proofs.Common.{◌≡◌, take}
use Rattle.df_group.specs.Totals as totals_spec
use Rattle.df_group.proofs.values.counts_after.Given as goal

abbrev pub invariant-loop-entry : goal.invariant-loop-entry
invariant-loop-entry l = l.after ≡ totals_spec.counts_after l.index l.counts (take l.entry-index l.entries)
