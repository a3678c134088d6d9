use Rattle.std.proofs.Common.{◌≡◌, ◌≤◌, length}
use Rattle.df_hall.specs.Closing.{AreFirst}
use Rattle.df_state.specs.Desks.{HaveSameSums}
use Rattle.df_hall.proofs.closing.gather.Given as goal

abbrev pub invariant-loop-at : goal.invariant-loop-at
invariant-loop-at g l = (l.catalogue ≡ l.fn.catalogue) × HaveSameSums l.fn.desks.items l.desks.items × (l.at ≤ length l.desks.items) × AreFirst l.desks.items l.at

abbrev pub decreases-loop-at : goal.decreases-loop-at
decreases-loop-at g l = l.at
