use Rattle.std.proofs.Common.{◌≡◌, drop}
use Rattle.df_hall.specs.Closing.{missing_frame, missing_from}
use Rattle.df_hall.proofs.closing.missing_in.Given as goal

abbrev pub invariant-loop-frame : goal.invariant-loop-frame
invariant-loop-frame g l = missing_frame l.desks l.catalogue.state ≡ missing_from l.desks l.frame (drop l.frame l.catalogue.state.frames)
