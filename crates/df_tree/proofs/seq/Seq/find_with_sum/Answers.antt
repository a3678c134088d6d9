use Rattle.std.proofs.Common.{subst}
use Rattle.df_tree.specs.Finds.{IsFound}
use Rattle.df_tree.specs.Leaves.{items}
use Rattle.df_tree.proofs.FoundLemmas.{first_found}
use Rattle.df_tree.proofs.seq.Seq.find_with_sum.Goals as goal

pub returns : goal.returns
returns g c =
    first_found g.I.Measure.Monoid.none g.I.Measure.Monoid.plus g.I.Item.measure g.met.I.Measure.Monoid.laws (g.T.Test.passes c.args.test.now) (g.met.T.Test.stays c.args.test.now) _ _ _
    (subst (λ m. IsFound {I = g.row.I.Denot} {M = g.row.I-Measure.Denot} g.I.Measure.Monoid.none g.I.Measure.Monoid.plus g.I.Item.measure (g.T.Test.passes c.args.test.now) m (items {I = g.row.I.Denot} c.args.self.now.0) c.find_from.result.count c.find_from.result.sum) c.none.ensures c.find_from.ensures)
