use Rattle.std.proofs.Common.{◌+◌, ◌++◌, ◌∙◌, ap, get_or, length, map, not, subst, sym}
use Rattle.std.specs.Prelude.{T}
use Rattle.std.specs.List.{list_all}
use Rattle.std.specs.FinMap as finite
use Rattle.df_column.specs.Bounds.{is_below}
use Rattle.df_column.specs.Changes.{applied}
use Rattle.df_column.specs.Tables.{entry_change}
use Rattle.df_column.specs.Tags.{tag_cmp}
use Rattle.df_delta.specs.Deltas.{has_row}
use Rattle.df_delta.specs.Differences.{IsDiff}
use Rattle.df_nodes.specs.Sums.{HasSumsBefore, made_output, sum_output}
use Rattle.df_nodes.proofs.Sums.{made_is, sum_diff}
use Rattle.df_nodes.proofs.SumStarts.{not_before, sums_before}
use Rattle.df_nodes.proofs.WindowDiff.{changes_of_entries, last_entry, next_entry, reached_delta}
use Rattle.df_nodes.proofs.sum.LiveSum.changes.Goals as goal

pub loop-at-init : goal.loop-at-init
loop-at-init c =
    let u = c.args.input.now.rows in
    let n = c.args.self.now in
    record {
      done = ap (λ es. map entry_change es ++ changes_of_entries n.output.rows (made_output n.places n.index u c.in_ok-all.all) (length (finite.entries u) + 1) (finite.entries u) c.entries-changes.result.now) c.new-entries.ensures.items;
      whole = c.entries-changes.ensures.all;
      rows = subst (λ es. T (list_all has_row es)) (sym c.new-entries.ensures.items) tt;
      sums = c.in_ok-all.ensures.sums;
      first = c.in_ok-all.ensures.first ∙ c.first_tag.ensures;
    }

pub loop-at-preserved : goal.loop-at-preserved
loop-at-preserved c =
    let u = c.args.input.now.rows in
    let n = c.args.self.now in
    let t = n.output.rows in
    let made = made_output n.places n.index u c.in_ok-all.all in
    let w = length (finite.entries u) + 1 in
    let es = c.entries-changes.result.now in
    record {
      done = next_entry t made w (finite.entries u) es c.loop-at.at c.rows_before_entry-stop.result c.index-changes-at.result
          (map entry_change c.push_reached.new.entries.items) (map entry_change c.loop-at.entries.items) (changes_of_entries t made w (finite.entries u) es)
          c.loop-at-test.true c.rows_before_entry-stop.ensures.rows c.in_ok-push_reached.ensures.added c.loop-at.invariant.done;
      whole = c.loop-at.invariant.whole;
      rows = c.in_ok-push_reached.ensures.rows c.loop-at.invariant.rows;
      sums = c.loop-at.invariant.sums;
      first = c.loop-at.invariant.first;
    }

pub push_reached-requires-clause-behind : goal.push_reached-requires-clause-behind
push_reached-requires-clause-behind c =
    let es = c.entries-changes.result.now in
    let sorted = subst (λ l. T (finite.is_sorted tag_cmp l)) (sym c.loop-at.invariant.whole) (finite.entries_sorted c.args.delta.now) in
    subst (λ f. T (not (is_below (get_or es c.loop-at.at c.index-changes-at.result).tag f))) (sym c.loop-at.invariant.first) (not_before es c.loop-at.at c.index-changes-at.result c.loop-at-test.true sorted)

pub from_entries-requires : goal.from_entries-requires
from_entries-requires c =
    let u = c.args.input.now.rows in
    let n = c.args.self.now in
    let t = n.output.rows in
    let made = made_output n.places n.index u c.in_ok-all.all in
    let w = length (finite.entries u) + 1 in
    let es = c.entries-changes.result.now in
    reached_delta t made w u c.args.delta.now c.loop-at.entries.items es c.loop-at.invariant.whole
    (last_entry t made w (finite.entries u) es c.loop-at.at (map entry_change c.loop-at.entries.items) (changes_of_entries t made w (finite.entries u) es) c.loop-at-test.false c.loop-at.invariant.done)
    c.loop-at.invariant.rows

pub returns : goal.returns
returns c t fits over after =
    let u = c.args.input.now.rows in
    let n = c.args.self.now in
    let old = n.output.rows in
    let made = made_output n.places n.index u c.in_ok-all.all in
    let w = length (finite.entries u) + 1 in
    let es = c.entries-changes.result.now in
    let d = c.args.delta.now in
    let all = last_entry old made w (finite.entries u) es c.loop-at.at (map entry_change c.loop-at.entries.items) (changes_of_entries old made w (finite.entries u) es) c.loop-at-test.false c.loop-at.invariant.done in
    let has = sums_before n.places n.index t d es c.loop-at.invariant.whole old u over after in
    let right = made_is n.places n.index u c.in_ok-all.all (c.in_ok-all.ensures.exact (subst (HasSumsBefore n.places n.index old u) (sym c.first_tag.ensures) has)) in
    subst (IsDiff (sum_output n.places n.index t) (sum_output n.places n.index (applied t d)))
    (sym (c.from_entries.ensures ∙ ap finite.from_sorted (all ∙ ap (λ m. changes_of_entries old m w (finite.entries u) es) right)))
    (sum_diff n.places n.index t d old u (map entry_change es) c.loop-at.invariant.whole over after)
