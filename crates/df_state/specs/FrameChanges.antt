-- Which change of a catalogue a change of one frame's rows is, and why frames refuse it.
use Rattle.std.specs.Prelude.{ℕ, List, Option, slice_get}
use Rattle.df_value.specs.declared.cell.CellType.{CellType}
use Rattle.df_frame.specs.declared.frame_change.FrameChange.{FrameChange}
use Rattle.df_frame.specs.declared.frame_change.FrameChange.TheVariants.{Append, Delete, Prepared, Replace}
use Rattle.df_frame.specs.declared.state.FrameState.{FrameState}
use Rattle.df_state.specs.declared.change.Change.{Change}
use Rattle.df_state.specs.declared.change.Change.TheVariants as change
use Rattle.df_state.specs.declared.fault.CatalogueFault.{CatalogueFault}
use Rattle.df_state.specs.Refusals.{append_refusal, delete_refusal, replace_refusal}

-- the change of the frame at an index
abbrev pub change_of : ℕ → FrameChange → Change
change_of f (Append chunk) = change.Append f chunk.now
change_of f (Prepared chunk) = change.Append f chunk.now
change_of f (Delete numbers) = change.Delete f numbers.now
change_of f (Replace rows) = change.Replace f rows.now

-- why frames of these schemas refuse it, if they do
abbrev pub frame_refusal : List (List (List ℕ × CellType)) → List FrameState → ℕ → FrameChange → Option CatalogueFault
frame_refusal schemas frames f (Append chunk) = append_refusal chunk.now (slice_get schemas f) (slice_get frames f)
frame_refusal schemas frames f (Prepared chunk) = append_refusal chunk.now (slice_get schemas f) (slice_get frames f)
frame_refusal schemas frames f (Delete numbers) = delete_refusal numbers.now (slice_get frames f)
frame_refusal schemas frames f (Replace rows) = replace_refusal rows.now (slice_get schemas f) (slice_get frames f)
