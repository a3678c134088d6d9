use Rattle.std.proofs.Common.{◌≡◌, take}
use Rattle.df_state.specs.Desks.{accepted_at, deleted_at}
use Rattle.df_hall.proofs.closing.sums.Given as goal

abbrev pub invariant-loop-desk : goal.invariant-loop-desk
invariant-loop-desk g l =
    (l.accepted ≡ accepted_at l.frame (take l.desk-index l.desks))
    × (l.deleted ≡ deleted_at l.frame (take l.desk-index l.desks))
