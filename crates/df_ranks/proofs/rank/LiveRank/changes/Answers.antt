use Rattle.std.proofs.Common.{◌∙◌, ap, map, refl, subst, sym}
use Rattle.std.specs.Prelude.{T}
use Rattle.std.specs.FinMap as finite
use Rattle.df_column.specs.Tables.{entry_change}
use Rattle.df_column.specs.Tags.{tag_cmp}
use Rattle.df_delta.proofs.Reached.{sorted_changes}
use Rattle.df_ranks.specs.Counts.{counted_rank}
use Rattle.df_ranks.specs.Ranked.{with_ranks}
use Rattle.df_ranks.proofs.OutputSteps.{change_end, change_step}
use Rattle.df_ranks.proofs.rank.LiveRank.changes.Goals as goal

pub from_entries-requires : goal.from_entries-requires
from_entries-requires c =
    let s = c.args.self.now in
    let t = s.output.rows in
    let u = with_ranks s.column.schema s.column.name s.column.index (counted_rank s.column.kind c.args.counts.now) c.args.input.now.rows in
    let all = change_end t u c.args.tags.now c.loop-tag.tag-index (map entry_change c.loop-tag.entries.items) _ c.loop-tag-test.false c.loop-tag.invariant.done in
    record {
      rising = subst (λ es. T (finite.is_sorted tag_cmp es)) (sym all) (sorted_changes t u c.args.tags.now c.requires);
      rows = c.loop-tag.invariant.rows;
    }

pub loop-tag-preserved : goal.loop-tag-preserved
loop-tag-preserved c =
    let s = c.args.self.now in
    let t = s.output.rows in
    let u = with_ranks s.column.schema s.column.name s.column.index (counted_rank s.column.kind c.args.counts.now) c.args.input.now.rows in
    record {
      done = change_step t u c.args.tags.now c.loop-tag.tag-index _ _ (map entry_change c.loop-tag.entries.items) _ _ c.in_ok-old.old c.in_ok-new.new c.loop-tag-test.true refl c.in_ok-old.ensures c.in_ok-new.ensures.row c.in_ok-push_change.ensures.added c.loop-tag.invariant.done;
      rows = c.in_ok-push_change.ensures.rows c.loop-tag.invariant.rows;
      known = c.in_ok-new.ensures.known;
    }

pub returns : goal.returns
returns c =
    let s = c.args.self.now in
    let t = s.output.rows in
    let u = with_ranks s.column.schema s.column.name s.column.index (counted_rank s.column.kind c.args.counts.now) c.args.input.now.rows in
    c.from_entries.ensures
    ∙ ap finite.from_sorted (change_end t u c.args.tags.now c.loop-tag.tag-index (map entry_change c.loop-tag.entries.items) _ c.loop-tag-test.false c.loop-tag.invariant.done)
