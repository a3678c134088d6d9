use Rattle.std.proofs.Common.{◌≡◌, ◌∙◌, Bool, ap}
use Rattle.std.specs.List.{dedup}
use Rattle.std.specs.Option.{option_copied}
use Rattle.std.specs.Ordering.{eq_by_cmp}
use Rattle.std.proofs.lemmas.List.Filters.{dedup_is}
use Rattle.df_column.specs.Tags.{tag_cmp}
use Rattle.df_column.specs.contracts.tag.TagOrd.TheImpl.Laws.{matches_eq-law}
use Rattle.df_column.specs.contracts.tag.TagPartialEq.TheImpl.{ghosts}
use Rattle.df_column.specs.declared.tag.Tag.{Tag}
use Rattle.df_ranks.proofs.TagLists.{reaches}
use Rattle.df_ranks.proofs.reach.reached_tags.Goals as goal

pub returns : goal.returns
returns c =
    let tests : ghosts.eq ≡ eq_by_cmp tag_cmp = λ i a b. matches_eq-law a b i in
    reaches c.args.delta.now c.args.input.now.rows c.args.index (option_copied c.args.least) c.in_ok-tags.tags.items c.sort_unstable.new.self.items c.dedup.new.self.items
    c.in_ok-tags.ensures c.sort_unstable.ensures.permutation c.sort_unstable.ensures.sorted
    (dedup_is ghosts.eq _ _ c.dedup.ensures.filtered ∙ ap (λ (test : Tag → Tag → Bool). dedup test c.sort_unstable.new.self.items) tests)
