use Rattle.std.proofs.Common.{◌≡◌, ◌<◌, ◌+◌, length, ap, refl, sym, ◌∙◌, arith, subst, rules}
use Rattle.df_tree.specs.Leaves.{leaves_of, leaves_of_parts, items, rank_above, rank_of}
use Rattle.df_tree.specs.Partitions.{IsBoundary, IsPartitioned, IsPlaceWithSum}
use Rattle.df_tree.proofs.PartitionLemmas.{partitioned_part, part_lower, place_further}
use Rattle.df_tree.proofs.seq.Seq.+before.Goals as goal

pub before-within-requires : goal.before-within-requires
before-within-requires g t c κs inside =
    let ks = c.in-Parts.parts.items in
    let mine : items {I = g.row.I.Denot} c.args.self.now.0 ≡ items {I = g.row.I.Denot} (leaves_of_parts {I = g.row.I.Denot} ks) = ap (λ p. p.0) (sym c.node.ensures.alike) ∙ ap (λ n. items (leaves_of n)) c.in-Parts.is in
    let own : rank_above {I = g.row.I.Denot} ks ≡ c.args.self.now.1 = ap (λ n. rank_of n) (sym c.in-Parts.is) ∙ ap (λ p. p.1) c.node.ensures.alike in
    let many : length c.deref-in-Parts.result.now ≡ length ks = ap length c.deref-in-Parts.ensures.value in
    let near : c.boundary_in-reach.result.at < length ks = omega (arith, many, c.boundary_in-reach.ensures.within, c.if-reach-len.false, c.len-in-Parts.ensures, c.in-Parts.parts.ok) in
    let below = part_lower {I = g.row.I.Denot} ks c.boundary_in-reach.result.at c.index.result.now near c.index.ensures in
    let whole : IsPartitioned {I = g.row.I.Denot} (g.P.Predicate.holds c.args.predicate.now) (items {I = g.row.I.Denot} (leaves_of_parts {I = g.row.I.Denot} ks)) = subst (λ xs. IsPartitioned {I = g.row.I.Denot} (g.P.Predicate.holds c.args.predicate.now) xs) mine c.requires in
    (omega (arith, below, own, c.decreases), (search rules, (search rules, (search rules, partitioned_part {I = g.row.I.Denot} (g.P.Predicate.holds c.args.predicate.now) ks c.boundary_in-reach.result.at c.index.result.now whole near c.index.ensures))))

pub overflow_add-result : goal.overflow_add-result
overflow_add-result g t c =
    let ks = c.in-Parts.parts.items in
    let mine : items {I = g.row.I.Denot} c.args.self.now.0 ≡ items {I = g.row.I.Denot} (leaves_of_parts {I = g.row.I.Denot} ks) = ap (λ p. p.0) (sym c.node.ensures.alike) ∙ ap (λ n. items (leaves_of n)) c.in-Parts.is in
    let many : length c.deref-in-Parts.result.now ≡ length ks = ap length c.deref-in-Parts.ensures.value in
    let near : c.boundary_in-reach.result.at < length ks = omega (arith, many, c.boundary_in-reach.ensures.within, c.if-reach-len.false, c.len-in-Parts.ensures, c.in-Parts.parts.ok) in
    let bound : IsBoundary {I = g.row.I.Denot} {M = g.row.I-Measure.Denot} g.I.Measure.Monoid.none g.I.Measure.Monoid.plus g.I.Item.measure (g.P.Predicate.holds c.args.predicate.now) ks c.boundary_in-reach.result.at c.boundary_in-reach.result.skipped c.boundary_in-reach.result.sum
    = subst (λ ks. IsBoundary {I = g.row.I.Denot} {M = g.row.I-Measure.Denot} g.I.Measure.Monoid.none g.I.Measure.Monoid.plus g.I.Item.measure (g.P.Predicate.holds c.args.predicate.now) ks c.boundary_in-reach.result.at c.boundary_in-reach.result.skipped c.boundary_in-reach.result.sum) c.deref-in-Parts.ensures.value c.boundary_in-reach.ensures in
    let all = place_further g.I.Measure.Monoid.none g.I.Measure.Monoid.plus g.I.Item.measure g.met.I.Measure.Monoid.laws (g.P.Predicate.holds c.args.predicate.now) ks _ _ _ bound c.index.result.now near c.index.ensures _ _ (g.I.Measure.Monoid.plus c.boundary_in-reach.result.sum c.before-within.result.sum) c.before-within.ensures refl in
    let many_items = ap length mine in
    omega (arith, all.place.within, many_items, c.len.ensures, c.len.type_inv)

pub returns-else-reach-len : goal.returns-else-reach-len
returns-else-reach-len g t c =
    let ks = c.in-Parts.parts.items in
    let mine : items {I = g.row.I.Denot} c.args.self.now.0 ≡ items {I = g.row.I.Denot} (leaves_of_parts {I = g.row.I.Denot} ks) = ap (λ p. p.0) (sym c.node.ensures.alike) ∙ ap (λ n. items (leaves_of n)) c.in-Parts.is in
    let many : length c.deref-in-Parts.result.now ≡ length ks = ap length c.deref-in-Parts.ensures.value in
    let near : c.boundary_in-reach.result.at < length ks = omega (arith, many, c.boundary_in-reach.ensures.within, c.if-reach-len.false, c.len-in-Parts.ensures, c.in-Parts.parts.ok) in
    let bound : IsBoundary {I = g.row.I.Denot} {M = g.row.I-Measure.Denot} g.I.Measure.Monoid.none g.I.Measure.Monoid.plus g.I.Item.measure (g.P.Predicate.holds c.args.predicate.now) ks c.boundary_in-reach.result.at c.boundary_in-reach.result.skipped c.boundary_in-reach.result.sum
    = subst (λ ks. IsBoundary {I = g.row.I.Denot} {M = g.row.I-Measure.Denot} g.I.Measure.Monoid.none g.I.Measure.Monoid.plus g.I.Item.measure (g.P.Predicate.holds c.args.predicate.now) ks c.boundary_in-reach.result.at c.boundary_in-reach.result.skipped c.boundary_in-reach.result.sum) c.deref-in-Parts.ensures.value c.boundary_in-reach.ensures in
    subst (λ xs. IsPlaceWithSum {I = g.row.I.Denot} {M = g.row.I-Measure.Denot} g.I.Measure.Monoid.none g.I.Measure.Monoid.plus g.I.Item.measure (g.P.Predicate.holds c.args.predicate.now) xs (c.boundary_in-reach.result.skipped + c.before-within.result.count) c.plus.result) (sym mine)
    (place_further g.I.Measure.Monoid.none g.I.Measure.Monoid.plus g.I.Item.measure g.met.I.Measure.Monoid.laws (g.P.Predicate.holds c.args.predicate.now) ks _ _ _ bound c.index.result.now near c.index.ensures _ _ _ c.before-within.ensures c.plus.ensures)
