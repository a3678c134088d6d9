use Rattle.std.proofs.Common.{ap, sym, ◌∙◌}
use Rattle.df_tree.specs.Laws.{total}
use Rattle.df_tree.proofs.PartitionLemmas.{filter_before}
use Rattle.df_tree.proofs.seq.Seq.measure_before.Goals as goal

pub returns : goal.returns
returns g c =
    let place = c.before-2.ensures.place in
    c.before-2.ensures.sum_is ∙ ap (total g.I.Measure.Monoid.none g.I.Measure.Monoid.plus g.I.Item.measure) (sym (filter_before (g.P.Predicate.holds c.args.predicate.now) _ _ place.before place.behind))
