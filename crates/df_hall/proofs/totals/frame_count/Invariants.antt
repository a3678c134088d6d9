use Rattle.std.proofs.Common.{◌≤◌, length}
use Rattle.df_hall.proofs.totals.frame_count.Given as goal

abbrev pub invariant-loop-frame : goal.invariant-loop-frame
invariant-loop-frame g l = l.frame ≤ length l.catalogue.state.frames
