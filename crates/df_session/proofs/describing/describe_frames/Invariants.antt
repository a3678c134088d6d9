use Rattle.std.proofs.Common.{◌≡◌, flat_map}
use Rattle.std.specs.Prelude.{slice_get}
use Rattle.std.specs.List.{range_with_len}
use Rattle.df_session.specs.Described.{frame_line_of}
use Rattle.df_session.proofs.describing.describe_frames.Given as goal

abbrev pub invariant-loop-at : goal.invariant-loop-at
invariant-loop-at g l =
    l.text.items ≡ flat_map (λ i. frame_line_of (slice_get l.frames i) (g.C.RowCounts.counts l.counts i)) (range_with_len 0 l.at)
