use Rattle.std.proofs.Common.{ap, sym, ◌∙◌}
use Rattle.df_tree.specs.Leaves.{leaves_of, items}
use Rattle.df_tree.specs.Laws.{total}
use Rattle.df_tree.proofs.LeafLemmas.{items-one}
use Rattle.df_tree.proofs.totals.measure_in.Goals as goal

pub returns-in-Items : goal.returns-in-Items
returns-in-Items g c =
    c.measure_of_items.ensures
    ∙ ap (total g.I.Measure.Monoid.none g.I.Measure.Monoid.plus g.I.Item.measure) (c.deref.ensures.value ∙ sym (items-one {I = g.row.I.Denot} c.in-Items.items.items 0) ∙ ap (λ n. items (leaves_of n)) (sym c.in-Items.is))
