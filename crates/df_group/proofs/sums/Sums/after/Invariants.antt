use Rattle.std.proofs.Common.{◌≡◌, take}
use Rattle.df_group.specs.Totals.{sums_after}
use Rattle.df_group.proofs.sums.Sums.after.Given as goal

abbrev pub invariant-loop-entry : goal.invariant-loop-entry
invariant-loop-entry l = l.sums ≡ sums_after l.fn.self (take l.entry-index l.entries)
