use Rattle.std.proofs.Common.{◌≡◌, map, take}
use Rattle.df_frame.specs.Frames.{rows_of}
use Rattle.df_state.proofs.tables.frame_rows.Given as goal

abbrev pub invariant-loop-frame : goal.invariant-loop-frame
invariant-loop-frame l = l.rows.items ≡ map (λ f. rows_of f.state) (take l.frame-index l.frames)
