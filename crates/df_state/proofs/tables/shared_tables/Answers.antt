use Rattle.df_state.proofs.Loops.{mapped-more}
use Rattle.df_frame.specs.FrameTables.{table_parts}
use Rattle.df_state.proofs.tables.shared_tables.Goals as goal

pub loop-frame-preserved : goal.loop-frame-preserved
loop-frame-preserved c =
    mapped-more c.args.frames.now c.loop-frame.frame-index c.frame-item.result table_parts _ _ _ c.loop-frame-test.true c.frame-item.is c.loop-frame.invariant c.in_ok-push.ensures.items c.in_ok-share.ensures
