use Rattle.std.proofs.Common.{◌+◌, ◌++◌, ◌≤◌, ◌^◌, ◌∙◌, ap, arith, length, map, subst, sym}
use Rattle.std.specs.Prelude.{T}
use Rattle.std.specs.List.{list_all}
use Rattle.std.specs.FinMap as finite
use Rattle.df_column.specs.Changes.{applied}
use Rattle.df_column.specs.Tables.{entry_change}
use Rattle.df_delta.specs.Deltas.{has_row}
use Rattle.df_delta.specs.Differences.{IsDiff}
use Rattle.df_nodes.specs.Rolling.{rolling_output}
use Rattle.df_nodes.proofs.WindowCounts.{fewer, grown, next_change, room}
use Rattle.df_nodes.proofs.WindowDiff.{changes_of_entries, last_entry, next_entry, reached_delta, window_diff}
use Rattle.df_nodes.proofs.window.LiveWindow.changes.Goals as goal

pub loop-at-init : goal.loop-at-init
loop-at-init c =
    let u = c.args.input.now.rows in
    let r = c.args.self.now.rolling in
    record {
      done = ap (λ es. map entry_change es ++ changes_of_entries c.args.self.now.output.rows (rolling_output r u) r.w (finite.entries u) c.entries-changes.result.now) c.new-entries.ensures.items;
      window =
          let start = c.in_ok-window.ensures.place.0 in
          let stop = c.in_ok-window.ensures.place.1 in
          record { over = c.in_ok-window.ensures.over r (finite.values u) (omega arith); whole = omega arith };
      whole = c.entries-changes.ensures.all;
      short = c.entries-changes.ensures.len;
      rows = subst (λ es. T (list_all has_row es)) (sym c.new-entries.ensures.items) tt;
      grows = (omega arith, omega arith, omega arith, omega arith);
      counted = (omega arith, omega arith, omega arith, omega arith);
    }

pub push_reached-requires-clause-counts : goal.push_reached-requires-clause-counts
push_reached-requires-clause-counts c =
    room c.loop-at.at (length c.entries-changes.result.now) c.args.self.now.rolling.w c.args.meter.now.windows c.loop-at.meter.windows c.loop-at-test.true (omega arith) c.requires.3 c.loop-at.invariant.counted.3

pub returns-in_err-push_reached-clause-grows : goal.returns-in_err-push_reached-clause-grows
returns-in_err-push_reached-clause-grows c = grown c.args.meter.now c.loop-at.meter c.push_reached.new.meter c.loop-at.invariant.grows c.push_reached.ensures.grows

pub returns-in_err-push_reached-clause-counted : goal.returns-in_err-push_reached-clause-counted
returns-in_err-push_reached-clause-counted c =
    let short = c.loop-at.invariant.short in
    fewer (c.loop-at.at + 1) (finite.len c.args.delta.now) c.args.self.now.rolling.w c.args.meter.now c.push_reached.new.meter (omega arith)
    (next_change c.args.meter.now c.loop-at.meter c.push_reached.new.meter c.loop-at.at c.args.self.now.rolling.w c.loop-at.invariant.counted c.push_reached.ensures.counted)

pub returns-in_err-push_reached-clause-within : goal.returns-in_err-push_reached-clause-within
returns-in_err-push_reached-clause-within c =
    let short : length c.entries-changes.result.now ≤ 2 ^ 64 = omega arith in
    fewer (c.loop-at.at + 1) (2 ^ 64) c.args.self.now.rolling.w c.args.meter.now c.push_reached.new.meter (omega arith)
    (next_change c.args.meter.now c.loop-at.meter c.push_reached.new.meter c.loop-at.at c.args.self.now.rolling.w c.loop-at.invariant.counted c.push_reached.ensures.counted)

pub loop-at-preserved : goal.loop-at-preserved
loop-at-preserved c =
    let u = c.args.input.now.rows in
    let r = c.args.self.now.rolling in
    let es = c.entries-changes.result.now in
    let t = c.args.self.now.output.rows in
    record {
      done = next_entry t (rolling_output r u) r.w (finite.entries u) es c.loop-at.at c.rows_before_entry-stop.result c.index-changes-at.result
          (map entry_change c.push_reached.new.entries.items) (map entry_change c.loop-at.entries.items) (changes_of_entries t (rolling_output r u) r.w (finite.entries u) es)
          c.loop-at-test.true c.rows_before_entry-stop.ensures.rows c.in_ok-push_reached.ensures.added c.loop-at.invariant.done;
      window = c.in_ok-push_reached.ensures.window;
      whole = c.loop-at.invariant.whole;
      short = c.loop-at.invariant.short;
      rows = c.in_ok-push_reached.ensures.rows c.loop-at.invariant.rows;
      grows = grown c.args.meter.now c.loop-at.meter c.push_reached.new.meter c.loop-at.invariant.grows c.push_reached.ensures.grows;
      counted = next_change c.args.meter.now c.loop-at.meter c.push_reached.new.meter c.loop-at.at r.w c.loop-at.invariant.counted c.push_reached.ensures.counted;
    }

pub from_entries-requires : goal.from_entries-requires
from_entries-requires c =
    let u = c.args.input.now.rows in
    let r = c.args.self.now.rolling in
    let t = c.args.self.now.output.rows in
    let es = c.entries-changes.result.now in
    reached_delta t (rolling_output r u) r.w u c.args.delta.now c.loop-at.entries.items es c.loop-at.invariant.whole
    (last_entry t (rolling_output r u) r.w (finite.entries u) es c.loop-at.at (map entry_change c.loop-at.entries.items) (changes_of_entries t (rolling_output r u) r.w (finite.entries u) es) c.loop-at-test.false c.loop-at.invariant.done)
    c.loop-at.invariant.rows

pub returns-clause-diff : goal.returns-clause-diff
returns-clause-diff c t fits over after =
    let u = c.args.input.now.rows in
    let r = c.args.self.now.rolling in
    let old = c.args.self.now.output.rows in
    let es = c.entries-changes.result.now in
    let d = c.args.delta.now in
    let all = last_entry old (rolling_output r u) r.w (finite.entries u) es c.loop-at.at (map entry_change c.loop-at.entries.items) (changes_of_entries old (rolling_output r u) r.w (finite.entries u) es) c.loop-at-test.false c.loop-at.invariant.done in
    subst (IsDiff (rolling_output r t) (rolling_output r (applied t d)))
    (sym (c.from_entries.ensures ∙ ap finite.from_sorted all))
    (window_diff r t d old u (map entry_change es) c.loop-at.invariant.whole over after)

pub returns-clause-counted : goal.returns-clause-counted
returns-clause-counted c =
    let short = c.loop-at.invariant.short in
    fewer c.loop-at.at (finite.len c.args.delta.now) c.args.self.now.rolling.w c.args.meter.now c.loop-at.meter (omega arith) c.loop-at.invariant.counted

pub returns-clause-within : goal.returns-clause-within
returns-clause-within c =
    let short : length c.entries-changes.result.now ≤ 2 ^ 64 = omega arith in
    fewer c.loop-at.at (2 ^ 64) c.args.self.now.rolling.w c.args.meter.now c.loop-at.meter (omega arith) c.loop-at.invariant.counted
