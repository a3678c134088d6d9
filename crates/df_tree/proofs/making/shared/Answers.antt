use Rattle.std.proofs.Common.{rules, ap, ◌∙◌}
use Rattle.df_tree.specs.Laws.{total}
use Rattle.df_tree.proofs.LeafLemmas.{items-shared}
use Rattle.df_tree.proofs.making.shared.Goals as goal

pub invariant_of-result : goal.invariant_of-result
invariant_of-result g c =
    record {
      counted = search (rules, items-shared);
      ranked = search rules;
      few = search rules;
      measured = c.measure_in-measure.ensures ∙ ap (total g.I.Measure.Monoid.none g.I.Measure.Monoid.plus g.I.Item.measure) (search (rules, items-shared));
      level = search rules;
    }

pub returns : goal.returns
returns g c = search (rules, items-shared)
