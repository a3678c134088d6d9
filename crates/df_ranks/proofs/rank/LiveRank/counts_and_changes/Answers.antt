use Rattle.std.proofs.Common.{◌∙◌, ap, subst}
use Rattle.std.specs.FinMap as finite
use Rattle.std.specs.Option.{option_copied}
use Rattle.df_delta.specs.Reached.{changes_at}
use Rattle.df_ranks.specs.Counts.{RanksStay, counted_rank}
use Rattle.df_ranks.specs.Ranked.{with_ranks}
use Rattle.df_ranks.specs.Reach.{Reaches}
use Rattle.df_ranks.proofs.rank.LiveRank.counts_and_changes.Goals as goal

pub returns : goal.returns
returns c =
    let s = c.args.self.now in
    let input = c.args.input.now.rows in
    let new = c.in_ok-counts.counts in
    let least = option_copied c.least_change-least.result in
    record {
      sorted = c.in_ok-counts.ensures.sorted;
      rising = c.in_ok-counts.ensures.rising;
      counted = c.in_ok-counts.ensures.counts;
      again = record {
        least = least;
        tags = c.in_ok-tags.tags.items;
        stay = subst (λ k. RanksStay k s.counts new least) c.kind.ensures c.least_change-least.ensures;
        reach = subst (λ i. Reaches c.in_ok-tags.tags.items c.args.delta.now input i least) c.index.ensures c.in_ok-tags.ensures;
        made =
            c.in_ok-changes.ensures
            ∙ ap (λ tags. finite.from_sorted (changes_at s.output.rows (with_ranks s.column.schema s.column.name s.column.index (counted_rank s.column.kind new) input) tags)) c.deref.ensures.value;
      };
    }
