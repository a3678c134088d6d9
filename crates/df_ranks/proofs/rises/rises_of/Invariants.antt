use Rattle.std.proofs.Common.{take}
use Rattle.df_ranks.specs.Rises.{AreRises}
use Rattle.df_ranks.proofs.rises.rises_of.Given as goal

abbrev pub invariant-loop-entry : goal.invariant-loop-entry
invariant-loop-entry l = AreRises l.rises l.index (take l.entry-index l.entries)
