use Rattle.std.proofs.Common.{◌∙◌, subst, sym}
use Rattle.df_delta.specs.Differences.{IsDiff}
use Rattle.df_live.specs.Frames.{changed, frame_at}
use Rattle.df_live.proofs.Scans.{other_scan}
use Rattle.df_live.proofs.scan.scanned.Goals as goal

pub returns-else-scanned-frame : goal.returns-else-scanned-frame
returns-else-scanned-frame c frames lean fits within =
    subst (IsDiff (frame_at frames c.args.scanned) (frame_at (changed frames c.args.frame c.args.delta.now) c.args.scanned)) (sym (c.made.ensures ∙ c.empty.ensures))
    (other_scan frames c.args.scanned c.args.frame c.args.delta.now c.if-scanned-frame.false)
