-- What a change makes of a frame that takes it.
use Rattle.std.proofs.Common.{◌≡◌, ◌+◌, length, arith}
use Rattle.df_frame.specs.declared.frame_change.FrameChange.{FrameChange}
use Rattle.df_frame.specs.declared.frame_change.FrameChange.TheVariants.{Append, Delete, Prepared, Replace}
use Rattle.df_frame.specs.declared.state.FrameState.{FrameState}
use Rattle.df_frame.specs.FrameChanges.{accepted_rows, deleted_rows, frame_after, FrameTakes, IsSound}
use Rattle.df_frame.specs.Frames.{IsNumbered}
use Rattle.df_frame.proofs.Counting.{deleted-more}
use Rattle.df_frame.proofs.FrameFacts.{accepted-more, numbered-with_chunk, numbered-with_replaced_rows, numbered-without_rows}

-- a frame is sound after it
pub numbered-after : (c : FrameChange) (x : FrameState) → IsSound c → IsNumbered x → FrameTakes x c → IsNumbered (frame_after x c)
numbered-after (Append chunk) x sound h takes = numbered-with_chunk chunk.now x h sound.numbered takes.0 takes.1
numbered-after (Prepared chunk) x sound h takes = numbered-with_chunk chunk.now x h sound.numbered takes.0 takes.1
numbered-after (Delete ns) x sound h takes = numbered-without_rows ns.now x h
numbered-after (Replace rows) x sound h takes = numbered-with_replaced_rows rows.now x h

pub frame-accepted :
    (c : FrameChange) (x : FrameState) → length (frame_after x c).accepted ≡ length x.accepted + accepted_rows c
frame-accepted (Append chunk) x = accepted-more chunk.now x
frame-accepted (Prepared chunk) x = accepted-more chunk.now x
frame-accepted (Delete ns) x = omega arith
frame-accepted (Replace rows) x = omega arith

pub frame-deleted :
    (c : FrameChange) (x : FrameState) → IsNumbered x → FrameTakes x c →
    length (frame_after x c).deleted ≡ length x.deleted + deleted_rows c
frame-deleted (Append chunk) x sound takes = omega arith
frame-deleted (Prepared chunk) x sound takes = omega arith
frame-deleted (Delete ns) x sound takes = deleted-more x ns.now sound takes.0 takes.1
frame-deleted (Replace rows) x sound takes = omega arith
