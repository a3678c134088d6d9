use Rattle.std.proofs.Common.{◌≡◌, ◌∙◌, ◌++◌, ℕ, List, Some, ap, arith, sym}
use Rattle.std.specs.Prelude.{slice_get}
use Rattle.std.proofs.lemmas.Option.{slice_get-get_or}
use Rattle.df_session.specs.Described.{frame_line_of}
use Rattle.df_session.proofs.DescribedFacts.{frame-more}
use Rattle.df_session.proofs.describing.describe_frames.Goals as goal

pub loop-at-preserved : goal.loop-at-preserved
loop-at-preserved g c =
    let frames = c.as_slice-frames.result.now in
    let counts = g.C.RowCounts.counts c.args.counts.now in
    let at = c.loop-at.at in
    let there : slice_get frames at ≡ Some c.index-frames-at.result =
    slice_get-get_or frames at c.index-frames-at.result (omega (arith, c.loop-at-test.true)) ∙ ap Some (sym c.index-frames-at.is) in
    frame-more frames counts at c.index-frames-at.result c.row_count.result c.loop-at.text.items c.push_frame.new.text.items
    c.loop-at.invariant there c.row_count.ensures c.in_ok-push_frame.ensures
