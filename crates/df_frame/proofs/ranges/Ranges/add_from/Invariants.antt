use Rattle.std.proofs.Common.{◌≡◌, ◌++◌, take}
use Rattle.df_frame.specs.Ranges.{all_numbers, ranges_from}
use Rattle.df_frame.proofs.ranges.Ranges.add_from.Given as goal

abbrev pub invariant-loop-range : goal.invariant-loop-range
invariant-loop-range l = l.self ≡ l.initial.self ++ all_numbers (ranges_from l.first (take l.range-index l.ranges))
