use Rattle.std.proofs.Common.{Some, ap, ◌∙◌}
use Rattle.df_counts.proofs.PlaceLemmas.{found_here, found_none}
use Rattle.df_counts.proofs.entries.position_of.Goals as goal

pub returns-then-is_at : goal.returns-then-is_at
returns-then-is_at c =
    record {
      place = c.place_of-index.ensures;
      count =
          ap (λ e. Some e.1) c.behind-entries.view_is
          ∙ found_here _ c.place_of-index.result c.args.value.now c.place_of-index.ensures (c.is_at.ensures.there c.if-is_at.true) c.get.result.now c.get.ensures;
      there = c.is_at.ensures.there c.if-is_at.true;
      gap = tt;
    }

pub returns : goal.returns
returns c =
    record {
      place = c.place_of-index.ensures;
      count = found_none _ c.place_of-index.result c.args.value.now c.place_of-index.ensures (c.is_at.ensures.gap c.if-is_at.false);
      there = tt;
      gap = c.is_at.ensures.gap c.if-is_at.false;
    }
