use Rattle.std.proofs.Common.{◌≡◌, drop}
use Rattle.std.specs.Option.{option_copied}
use Rattle.df_counts.specs.Counts.{value_in}
use Rattle.df_group.specs.Totals.{extreme_after}
use Rattle.df_group.proofs.extremes.extreme_after.Given as goal

abbrev pub invariant-loop-entry : goal.invariant-loop-entry
invariant-loop-entry l =
    extreme_after l.min_max l.index (value_in l.known) l.entries ≡ extreme_after l.min_max l.index (option_copied l.best) (drop l.entry-index l.entries)
