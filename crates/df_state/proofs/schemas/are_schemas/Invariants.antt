use Rattle.std.proofs.Common.{◌≡◌, length, drop}
use Rattle.df_frame.specs.FrameParts.{schemas_of}
use Rattle.df_state.specs.Schemas.{schemas_eq}
use Rattle.df_state.proofs.schemas.are_schemas.Given as goal

abbrev pub invariant-loop-i : goal.invariant-loop-i
invariant-loop-i l =
    (length l.schemas ≡ length l.frames)
    × (schemas_eq l.schemas (schemas_of l.frames) ≡ schemas_eq (drop l.i l.schemas) (drop l.i (schemas_of l.frames)))
