use Rattle.std.proofs.Common.{◌-◌, take}
use Rattle.df_hall.specs.Rooms.{HasRoomFor, Holds}
use Rattle.df_hall.proofs.totals.TotalsRoom.totals.Given as goal

abbrev pub invariant-loop-frame : goal.invariant-loop-frame
invariant-loop-frame g l = HasRoomFor (8 - l.frame) l.room × Holds l.room (take l.frame l.catalogue.state.frames)
