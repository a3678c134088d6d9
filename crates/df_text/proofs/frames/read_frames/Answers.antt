use Rattle.std.proofs.Common.{arith}
use Rattle.toml.specs.View.{view}
use Rattle.df_text.specs.Frames.{frame_of}
use Rattle.df_text.proofs.ReadSteps.{read_more, read_whole}
use Rattle.df_text.proofs.frames.read_frames.Goals as goal

pub loop-table-preserved : goal.loop-table-preserved
loop-table-preserved c =
    read_more view frame_of c.args.tables.now c.loop-table.table-index _ c.loop-table.frames.items _ c.table-item.result _
    (omega arith) c.table-item.is c.loop-table.invariant (rw c.as_slice.ensures.value at c.in_ok-frame.ensures) c.in_ok-push.ensures.items

pub returns : goal.returns
returns c =
    read_whole view frame_of c.args.tables.now c.loop-table.table-index _ c.loop-table.frames.items _
    (omega arith) c.loop-table.invariant c.from_vec.ensures
