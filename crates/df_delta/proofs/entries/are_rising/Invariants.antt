use Rattle.std.proofs.Common.{◌≡◌, ◌-◌}
use Rattle.df_delta.proofs.Rising.{rises_from}
use Rattle.df_delta.proofs.entries.are_rising.Given as goal

abbrev pub invariant-loop-at : goal.invariant-loop-at
invariant-loop-at l = rises_from 0 l.entries ≡ rises_from (l.at - 1) l.entries
