use Rattle.std.proofs.Common.{◌≡◌, ◌+◌, length, ap, sym, ◌∙◌, arith, subst, rules}
use Rattle.df_tree.specs.Leaves.{leaves_of, leaves_of_parts, items, rank_above, rank_of}
use Rattle.df_tree.specs.Laws.{total}
use Rattle.df_tree.specs.Finds.{IsFound, IsReached}
use Rattle.df_tree.proofs.LeafLemmas.{items-one}
use Rattle.df_tree.proofs.FoundLemmas.{found_at, reached_lower, reached_now, settled_at, reached_in}
use Rattle.df_tree.proofs.seq.Seq.+find_from.Goals as goal

pub find_item-requires-clause-some : goal.find_item-requires-clause-some
find_item-requires-clause-some g t c =
    let mine : items {I = g.row.I.Denot} c.args.self.now.0 ≡ c.deref.result.now = ap (λ p. p.0) (sym c.node.ensures.alike) ∙ ap (λ n. items (leaves_of n)) c.in-Items.is ∙ items-one {I = g.row.I.Denot} c.in-Items.leaf.items 0 ∙ sym c.deref.ensures.value in
    ap (λ is. g.T.Test.passes c.args.test.now (g.I.Measure.Monoid.plus c.args.before (total g.I.Measure.Monoid.none g.I.Measure.Monoid.plus g.I.Item.measure is))) (sym mine) ∙ c.requires.some

pub returns-in-Items : goal.returns-in-Items
returns-in-Items g t c =
    let mine : items {I = g.row.I.Denot} c.args.self.now.0 ≡ c.deref.result.now = ap (λ p. p.0) (sym c.node.ensures.alike) ∙ ap (λ n. items (leaves_of n)) c.in-Items.is ∙ items-one {I = g.row.I.Denot} c.in-Items.leaf.items 0 ∙ sym c.deref.ensures.value in
    subst (λ is. IsFound {I = g.row.I.Denot} {M = g.row.I-Measure.Denot} g.I.Measure.Monoid.none g.I.Measure.Monoid.plus g.I.Item.measure (g.T.Test.passes c.args.test.now) c.args.before is c.find_item.result.count c.find_item.result.sum) (sym mine) c.find_item.ensures

pub returns-in-Parts : goal.returns-in-Parts
returns-in-Parts g t c =
    let mine : items {I = g.row.I.Denot} c.args.self.now.0 ≡ items {I = g.row.I.Denot} (leaves_of_parts {I = g.row.I.Denot} c.in-Parts.parts.items) = ap (λ p. p.0) (sym c.node.ensures.alike) ∙ ap (λ n. items (leaves_of n)) c.in-Parts.is in
    let reach : IsReached {I = g.row.I.Denot} {M = g.row.I-Measure.Denot} g.I.Measure.Monoid.none g.I.Measure.Monoid.plus g.I.Item.measure (g.T.Test.passes c.args.test.now) c.args.before c.in-Parts.parts.items c.reach_in-reach.result.at c.reach_in-reach.result.skipped c.reach_in-reach.result.sum
    = subst (λ ks. IsReached {I = g.row.I.Denot} {M = g.row.I-Measure.Denot} g.I.Measure.Monoid.none g.I.Measure.Monoid.plus g.I.Item.measure (g.T.Test.passes c.args.test.now) c.args.before ks c.reach_in-reach.result.at c.reach_in-reach.result.skipped c.reach_in-reach.result.sum) c.deref-in-Parts.ensures.value c.reach_in-reach.ensures in
    let found = found_at g.I.Measure.Monoid.none g.I.Measure.Monoid.plus g.I.Item.measure g.met.I.Measure.Monoid.laws (g.T.Test.passes c.args.test.now) _ _ _ _ _ reach c.index.result.now c.index.ensures c.find_from-found.result.count c.find_from-found.result.sum c.find_from-found.ensures in
    subst (λ is. IsFound {I = g.row.I.Denot} {M = g.row.I-Measure.Denot} g.I.Measure.Monoid.none g.I.Measure.Monoid.plus g.I.Item.measure (g.T.Test.passes c.args.test.now) c.args.before is (c.reach_in-reach.result.skipped + c.find_from-found.result.count) c.find_from-found.result.sum) (sym mine) found

pub overflow_add-result : goal.overflow_add-result
overflow_add-result g t c =
    let mine : items {I = g.row.I.Denot} c.args.self.now.0 ≡ items {I = g.row.I.Denot} (leaves_of_parts {I = g.row.I.Denot} c.in-Parts.parts.items) = ap (λ p. p.0) (sym c.node.ensures.alike) ∙ ap (λ n. items (leaves_of n)) c.in-Parts.is in
    let reach : IsReached {I = g.row.I.Denot} {M = g.row.I-Measure.Denot} g.I.Measure.Monoid.none g.I.Measure.Monoid.plus g.I.Item.measure (g.T.Test.passes c.args.test.now) c.args.before c.in-Parts.parts.items c.reach_in-reach.result.at c.reach_in-reach.result.skipped c.reach_in-reach.result.sum
    = subst (λ ks. IsReached {I = g.row.I.Denot} {M = g.row.I-Measure.Denot} g.I.Measure.Monoid.none g.I.Measure.Monoid.plus g.I.Item.measure (g.T.Test.passes c.args.test.now) c.args.before ks c.reach_in-reach.result.at c.reach_in-reach.result.skipped c.reach_in-reach.result.sum) c.deref-in-Parts.ensures.value c.reach_in-reach.ensures in
    let found = found_at g.I.Measure.Monoid.none g.I.Measure.Monoid.plus g.I.Item.measure g.met.I.Measure.Monoid.laws (g.T.Test.passes c.args.test.now) _ _ _ _ _ reach c.index.result.now c.index.ensures c.find_from-found.result.count c.find_from-found.result.sum c.find_from-found.ensures in
    let m : length (items {I = g.row.I.Denot} c.args.self.now.0) ≡ length (items {I = g.row.I.Denot} (leaves_of_parts {I = g.row.I.Denot} c.in-Parts.parts.items)) = ap length mine in
    omega (arith, found.within, m, c.len.ensures, c.len.type_inv)

pub find_from-found-requires : goal.find_from-found-requires
find_from-found-requires g t c κs inside =
    let reach : IsReached {I = g.row.I.Denot} {M = g.row.I-Measure.Denot} g.I.Measure.Monoid.none g.I.Measure.Monoid.plus g.I.Item.measure (g.T.Test.passes c.args.test.now) c.args.before c.in-Parts.parts.items c.reach_in-reach.result.at c.reach_in-reach.result.skipped c.reach_in-reach.result.sum
    = subst (λ ks. IsReached {I = g.row.I.Denot} {M = g.row.I-Measure.Denot} g.I.Measure.Monoid.none g.I.Measure.Monoid.plus g.I.Item.measure (g.T.Test.passes c.args.test.now) c.args.before ks c.reach_in-reach.result.at c.reach_in-reach.result.skipped c.reach_in-reach.result.sum) c.deref-in-Parts.ensures.value c.reach_in-reach.ensures in
    let own : rank_above {I = g.row.I.Denot} c.in-Parts.parts.items ≡ c.args.self.now.1 = ap (λ n. rank_of n) (sym c.in-Parts.is) ∙ ap (λ p. p.1) c.node.ensures.alike in
    let below = reached_lower g.I.Measure.Monoid.none g.I.Measure.Monoid.plus g.I.Item.measure g.met.I.Measure.Monoid.laws (g.T.Test.passes c.args.test.now) _ _ _ _ _ reach _ c.index.ensures in
    (omega (arith, below, own, c.decreases), (search rules, (search rules, (search rules, (settled_at g.I.Measure.Monoid.none g.I.Measure.Monoid.plus g.I.Item.measure g.met.I.Measure.Monoid.laws (g.T.Test.passes c.args.test.now) _ _ _ _ _ reach, (reach.not_yet, reached_now g.I.Measure.Monoid.none g.I.Measure.Monoid.plus g.I.Item.measure g.met.I.Measure.Monoid.laws (g.T.Test.passes c.args.test.now) _ _ _ _ _ reach _ c.index.ensures))))))

pub reach_in-reach-requires-clause-some : goal.reach_in-reach-requires-clause-some
reach_in-reach-requires-clause-some g t c =
    let mine : items {I = g.row.I.Denot} c.args.self.now.0 ≡ items {I = g.row.I.Denot} (leaves_of_parts {I = g.row.I.Denot} c.deref-in-Parts.result.now) = ap (λ p. p.0) (sym c.node.ensures.alike) ∙ ap (λ n. items (leaves_of n)) c.in-Parts.is ∙ ap (λ ks. items {I = g.row.I.Denot} (leaves_of_parts {I = g.row.I.Denot} ks)) (sym c.deref-in-Parts.ensures.value) in
    ap (λ is. g.T.Test.passes c.args.test.now (g.I.Measure.Monoid.plus c.args.before (total g.I.Measure.Monoid.none g.I.Measure.Monoid.plus g.I.Item.measure is))) (sym mine) ∙ c.requires.some

pub reach_in-reach-requires-clause-fits : goal.reach_in-reach-requires-clause-fits
reach_in-reach-requires-clause-fits g t c =
    let mine : items {I = g.row.I.Denot} c.args.self.now.0 ≡ items {I = g.row.I.Denot} (leaves_of_parts {I = g.row.I.Denot} c.deref-in-Parts.result.now) = ap (λ p. p.0) (sym c.node.ensures.alike) ∙ ap (λ n. items (leaves_of n)) c.in-Parts.is ∙ ap (λ ks. items {I = g.row.I.Denot} (leaves_of_parts {I = g.row.I.Denot} ks)) (sym c.deref-in-Parts.ensures.value) in
    let m : length (items {I = g.row.I.Denot} c.args.self.now.0) ≡ length (items {I = g.row.I.Denot} (leaves_of_parts {I = g.row.I.Denot} c.deref-in-Parts.result.now)) = ap length mine in
    omega (arith, m, c.len.ensures, c.len.type_inv)

pub index-requires : goal.index-requires
index-requires g t c =
    let reach : IsReached {I = g.row.I.Denot} {M = g.row.I-Measure.Denot} g.I.Measure.Monoid.none g.I.Measure.Monoid.plus g.I.Item.measure (g.T.Test.passes c.args.test.now) c.args.before c.in-Parts.parts.items c.reach_in-reach.result.at c.reach_in-reach.result.skipped c.reach_in-reach.result.sum
    = subst (λ ks. IsReached {I = g.row.I.Denot} {M = g.row.I-Measure.Denot} g.I.Measure.Monoid.none g.I.Measure.Monoid.plus g.I.Item.measure (g.T.Test.passes c.args.test.now) c.args.before ks c.reach_in-reach.result.at c.reach_in-reach.result.skipped c.reach_in-reach.result.sum) c.deref-in-Parts.ensures.value c.reach_in-reach.ensures in
    let near = reached_in g.I.Measure.Monoid.none g.I.Measure.Monoid.plus g.I.Item.measure g.met.I.Measure.Monoid.laws (g.T.Test.passes c.args.test.now) _ _ _ _ _ reach in
    omega (arith, near, c.in-Parts.parts.ok)
