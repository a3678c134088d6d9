use Rattle.std.proofs.Common.{◌<◌, length, sym, ap, subst, slice_set, ◌∙◌, add-one, arith}
use Rattle.df_column.specs.Tables.{TableParts}
use Rattle.df_plan.specs.CheckedParts.{CheckedParts}
use Rattle.df_live.specs.Tables.{MayBeFilled, first_frames, tables_of}
use Rattle.df_live.specs.Views.{IsLive}
use Rattle.df_live.proofs.Filling.{first_are, length-tables, next_filled, next_first, none_first, rows_at}
use Rattle.df_live.proofs.view.LiveView.new.Goals as goal

pub loop-frame-init : goal.loop-frame-init
loop-frame-init c =
    let frames = tables_of c.args.tables.now in
    record {
      plan = c.in_ok-view.ensures.plan;
      live = c.in_ok-view.ensures.live (first_frames 0 frames) (none_first frames) (first_are c.args.plan.frames 0 frames c.requires.frames);
    }

pub loop-frame-preserved : goal.loop-frame-preserved
loop-frame-preserved c =
    let tables = c.args.tables.now in
    let frames = tables_of tables in
    let n = c.loop-frame.frame in
    let d : TableParts = c.index-tables-frame.result in
    let lt : n < length frames = omega (arith, c.loop-frame-test.true, length-tables tables) in
    let is = ap (λ (t : TableParts). t.rows) c.index-tables-frame.is ∙ sym (rows_at tables n d) in
    let came =
    subst (λ r. MayBeFilled c.args.plan.frames (first_frames n frames) n r) (sym is)
    (next_filled c.args.plan.frames n frames d.rows lt c.requires.frames) in
    let filled = subst (λ (p : CheckedParts). MayBeFilled p.frames (first_frames n frames) n d.rows) (sym c.loop-frame.invariant.plan) came in
    record {
      plan = c.in_ok-fill.ensures.plan ∙ c.loop-frame.invariant.plan;
      live =
          rw (add-one, ← next_first n frames d.rows lt)
          (subst (λ r. IsLive c.fill.new.self (slice_set (first_frames n frames) n r)) is
          (c.in_ok-fill.ensures.live (first_frames n frames) c.loop-frame.invariant.live filled));
    }
