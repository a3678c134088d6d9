use Rattle.std.proofs.Common.{◌≡◌, map}
use Rattle.df_frame.specs.FrameParts.{empty_parts}
use Rattle.df_state.proofs.opening.empty_frames.Given as goal

abbrev pub invariant-loop-schema : goal.invariant-loop-schema
invariant-loop-schema l = l.frames.items ≡ map empty_parts l.yielded
