use Rattle.std.proofs.Common.{◌≡◌, [], map, drop}
use Rattle.toml.specs.View.{view}
use Rattle.df_text.specs.Reading.{read_after}
use Rattle.df_text.specs.Frames.{frame_of}
use Rattle.df_text.proofs.frames.read_frames.Given as goal

abbrev pub invariant-loop-table : goal.invariant-loop-table
invariant-loop-table l =
    (read_after frame_of) [] (map view l.tables) ≡ (read_after frame_of) l.frames.items (map view (drop l.table-index l.tables))
