use Rattle.std.proofs.Common.{take}
use Rattle.df_column.specs.Picks.{AreOld}
use Rattle.df_column.proofs.picks.old_rows.Given as goal

abbrev pub invariant-loop-at : goal.invariant-loop-at
invariant-loop-at l = AreOld l.first (take l.at l.picks)
