use Rattle.std.proofs.Common.{◌+◌, ◌-◌, Some, arith, map, drop, take}
use Rattle.std.specs.FinMap as finite
use Rattle.df_column.specs.Tables.{entry_change}
use Rattle.df_nodes.specs.Rolling.{rolling_output}
use Rattle.df_nodes.specs.Sliding.{output_row}
use Rattle.df_nodes.proofs.WindowCounts.{counted_more, grown}
use Rattle.df_nodes.proofs.WindowValues.{next_tag, one_more, run_row}
use Rattle.df_nodes.proofs.window.LiveWindow.push_run.Goals as goal

pub loop-at-preserved : goal.loop-at-preserved
loop-at-preserved c =
    let u = c.args.input.now.rows in
    let rows = finite.entries u in
    let r = c.args.self.now.rolling in
    let at = c.loop-at.at in
    let from = c.args.from in
    let within = c.requires.within in
    let len = finite.len-entries u in
    let q = c.tag.result in
    record {
      added = one_more c.args.self.now.output.rows (rolling_output r u)
          (map entry_change c.push_at.new.entries.items) (map entry_change c.loop-at.entries.items) (map entry_change c.args.entries.now.items)
          (map (λ x. x.0) (drop from (take at rows))) (map (λ x. x.0) (drop from (take (at + 1) rows))) q
          (output_row r (finite.values u) (Some at))
          c.in_ok-push_at.ensures.added
          (run_row r u q at (omega arith) c.tag.ensures)
          c.loop-at.invariant.added
          (next_tag rows from at q (omega arith) (omega arith) c.tag.ensures);
      window = c.in_ok-push_at.ensures.window;
      rows = λ h. c.in_ok-push_at.ensures.rows (c.loop-at.invariant.rows h);
      grows = grown c.args.meter.now c.loop-at.meter c.push_at.new.meter c.loop-at.invariant.grows c.push_at.ensures.grows;
      counted = counted_more c.args.meter.now c.loop-at.meter c.push_at.new.meter (at - from) 1 (at + 1 - from) c.loop-at.invariant.counted c.push_at.ensures.counted (omega arith);
    }
