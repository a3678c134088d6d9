use Rattle.std.proofs.Common.{◌≡◌, take, length, ap, sym, ◌∙◌, subst, rules, arith}
use Rattle.std.proofs.lemmas.List.{length-take-le}
use Rattle.df_tree.specs.Leaves.{items, items_of_parts, leaves_of, rank_above, rank_of}
use Rattle.df_tree.specs.Level.{AreLevel, IsLevel}
use Rattle.df_tree.specs.Spots.{IsSpot}
use Rattle.df_tree.proofs.LeafLemmas.{items-one}
use Rattle.df_tree.proofs.SpotLemmas.{at_in, lower}
use Rattle.df_tree.proofs.CutLemmas.{level_take, taken}
use Rattle.df_tree.proofs.Outcomes.{if_ok_then}
use Rattle.df_tree.proofs.seq.Seq.+first.Goals as goal

pub returns-in_ok-made-in-Items : goal.returns-in_ok-made-in-Items
returns-in_ok-made-in-Items g t c =
    let mine : items {I = g.row.I.Denot} c.args.self.now.0 ≡ c.in-Items.leaf.items = ap (λ p. p.0) (sym c.node.ensures.alike) ∙ ap (λ n. items (leaves_of n)) c.in-Items.is ∙ items-one {I = g.row.I.Denot} c.in-Items.leaf.items 0 in
    if_ok_then c.shared.result c.shared.ensures (λ k h. ap (λ p. p.0) h ∙ items-one {I = g.row.I.Denot} _ 0 ∙ c.in_ok-made-in-Items.ensures ∙ ap (take c.args.count) (c.deref.ensures.value ∙ sym mine))

pub returns-in_ok-last-in-Parts : goal.returns-in_ok-last-in-Parts
returns-in_ok-last-in-Parts g t c =
    let mine : items {I = g.row.I.Denot} c.args.self.now.0 ≡ items_of_parts {I = g.row.I.Denot} c.in-Parts.parts.items = ap (λ p. p.0) (sym c.node.ensures.alike) ∙ ap (λ n. items (leaves_of n)) c.in-Parts.is in
    let spot : IsSpot {I = g.row.I.Denot} c.in-Parts.parts.items c.args.count c.spot_at-spot.result.at c.spot_at-spot.result.rest
    = subst (λ ks. IsSpot {I = g.row.I.Denot} ks c.args.count c.spot_at-spot.result.at c.spot_at-spot.result.rest) c.deref-in-Parts.ensures.value c.spot_at-spot.ensures in
    let front = c.in_ok-front-in-Parts.ensures ∙ ap (λ l. items_of_parts {I = g.row.I.Denot} (take c.spot_at-spot.result.at l)) c.deref-in-Parts-2.ensures.value in
    if_ok_then c.joined.result c.joined.ensures (λ k h. h ∙ taken {I = g.row.I.Denot} _ _ _ _ spot c.index.result.now _ _ c.index.ensures front c.in_ok-last-in-Parts.ensures ∙ ap (take c.args.count) (sym mine))

pub gathered_copies-requires : goal.gathered_copies-requires
gathered_copies-requires g t c =
    let level : AreLevel {I = g.row.I.Denot} c.deref-in-Parts-2.result.now = subst (λ l. AreLevel {I = g.row.I.Denot} l) (sym c.deref-in-Parts-2.ensures.value) (subst (IsLevel {I = g.row.I.Denot} {M = g.row.I-Measure.Denot}) c.in-Parts.is c.node.ensures.level) in
    let rank : rank_above {I = g.row.I.Denot} c.deref-in-Parts-2.result.now ≡ c.args.self.now.1 = ap (λ l. rank_above {I = g.row.I.Denot} l) c.deref-in-Parts-2.ensures.value ∙ ap (λ n. rank_of n) (sym c.in-Parts.is) ∙ ap (λ p. p.1) c.node.ensures.alike in
    let few = level_take {I = g.row.I.Denot} c.deref-in-Parts-2.result.now c.spot_at-spot.result.at level (omega (arith, rank, c.levels.ensures.rank, c.levels.ensures.few)) in
    record { level = few.0; few = few.1 }

pub spot_at-spot-requires : goal.spot_at-spot-requires
spot_at-spot-requires g t c =
    let mine : items {I = g.row.I.Denot} c.args.self.now.0 ≡ items_of_parts {I = g.row.I.Denot} c.in-Parts.parts.items = ap (λ p. p.0) (sym c.node.ensures.alike) ∙ ap (λ n. items (leaves_of n)) c.in-Parts.is in
    let many = ap length mine in
    let same = ap (λ ks. length (items_of_parts {I = g.row.I.Denot} ks)) c.deref-in-Parts.ensures.value in
    omega (arith, many, same, c.len.ensures, c.if-len-count.false)

pub index-requires : goal.index-requires
index-requires g t c =
    let spot : IsSpot {I = g.row.I.Denot} c.in-Parts.parts.items c.args.count c.spot_at-spot.result.at c.spot_at-spot.result.rest
    = subst (λ ks. IsSpot {I = g.row.I.Denot} ks c.args.count c.spot_at-spot.result.at c.spot_at-spot.result.rest) c.deref-in-Parts.ensures.value c.spot_at-spot.ensures in
    let near = at_in {I = g.row.I.Denot} _ _ _ _ spot in
    omega (arith, near, c.in-Parts.parts.ok)

pub first-requires : goal.first-requires
first-requires g t c κs inside =
    let spot : IsSpot {I = g.row.I.Denot} c.in-Parts.parts.items c.args.count c.spot_at-spot.result.at c.spot_at-spot.result.rest
    = subst (λ ks. IsSpot {I = g.row.I.Denot} ks c.args.count c.spot_at-spot.result.at c.spot_at-spot.result.rest) c.deref-in-Parts.ensures.value c.spot_at-spot.ensures in
    let own : rank_above {I = g.row.I.Denot} c.in-Parts.parts.items ≡ c.args.self.now.1 = ap (λ n. rank_of n) (sym c.in-Parts.is) ∙ ap (λ p. p.1) c.node.ensures.alike in
    let below = lower {I = g.row.I.Denot} _ _ _ _ spot _ c.index.ensures in
    (omega (arith, below, own, c.decreases), search rules)

pub slice_bounds-items_again-end : goal.slice_bounds-items_again-end
slice_bounds-items_again-end g t c =
    let mine : items {I = g.row.I.Denot} c.args.self.now.0 ≡ c.in-Items.leaf.items = ap (λ p. p.0) (sym c.node.ensures.alike) ∙ ap (λ n. items (leaves_of n)) c.in-Items.is ∙ items-one {I = g.row.I.Denot} c.in-Items.leaf.items 0 in
    let many = ap length mine in
    let same = ap length c.deref.ensures.value in
    sym (length-take-le c.args.count c.deref.result.now (omega (arith, many, same, c.len.ensures, c.if-len-count.false)))

pub slice_bounds-gathered_copies-end : goal.slice_bounds-gathered_copies-end
slice_bounds-gathered_copies-end g t c =
    let spot : IsSpot {I = g.row.I.Denot} c.in-Parts.parts.items c.args.count c.spot_at-spot.result.at c.spot_at-spot.result.rest
    = subst (λ ks. IsSpot {I = g.row.I.Denot} ks c.args.count c.spot_at-spot.result.at c.spot_at-spot.result.rest) c.deref-in-Parts.ensures.value c.spot_at-spot.ensures in
    let near = at_in {I = g.row.I.Denot} _ _ _ _ spot in
    let same = ap length c.deref-in-Parts-2.ensures.value in
    sym (length-take-le c.spot_at-spot.result.at c.deref-in-Parts-2.result.now (omega (arith, near, same)))
