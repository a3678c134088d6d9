use Rattle.std.proofs.Common.{flat_map}
use Rattle.df_session.specs.Filling.{AreMade, frame_appends}
use Rattle.df_session.proofs.filling.enter_frames.Given as goal

abbrev pub invariant-loop-frame : goal.invariant-loop-frame
invariant-loop-frame g l = AreMade g.S.ViewStore.Makes l.fn.store l.store (flat_map frame_appends l.yielded)
