use Rattle.std.proofs.Common.{◌≡◌, take, map}
use Rattle.df_frame.specs.FrameTables.{table_parts}
use Rattle.df_state.proofs.tables.shared_tables.Given as goal

abbrev pub invariant-loop-frame : goal.invariant-loop-frame
invariant-loop-frame l = l.tables.items ≡ map table_parts (take l.frame-index l.frames)
