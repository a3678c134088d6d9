use Rattle.std.proofs.Common.{◌≡◌, ◌≤◌, ◌<◌, ◌+◌, ◌-◌, take, drop, length, ap, sym, ◌∙◌, subst, rules, arith, length-drop}
use Rattle.df_tree.specs.Leaves.{items, items_of_parts, leaves_of, rank_above, rank_of}
use Rattle.df_tree.specs.Level.{AreLevel, IsLevel}
use Rattle.df_tree.specs.Spots.{IsSpot}
use Rattle.df_tree.proofs.LeafLemmas.{items-one, take_past}
use Rattle.df_tree.proofs.SpotLemmas.{at_in, lower}
use Rattle.df_tree.proofs.CutLemmas.{dropped, level_drop}
use Rattle.df_tree.proofs.Outcomes.{if_ok_then}
use Rattle.df_tree.proofs.seq.Seq.+behind.Goals as goal

pub returns-in_ok-made-in-Items : goal.returns-in_ok-made-in-Items
returns-in_ok-made-in-Items g t c =
    let mine : items {I = g.row.I.Denot} c.args.self.now.0 ≡ c.in-Items.leaf.items = ap (λ p. p.0) (sym c.node.ensures.alike) ∙ ap (λ n. items (leaves_of n)) c.in-Items.is ∙ items-one {I = g.row.I.Denot} c.in-Items.leaf.items 0 in
    let many : length (drop c.args.count c.deref.result.now) ≤ length c.deref.result.now - c.args.count = let n = length-drop c.args.count c.deref.result.now in omega (arith, n) in
    if_ok_then c.shared-in-Items.result c.shared-in-Items.ensures (λ k h. ap (λ p. p.0) h ∙ items-one {I = g.row.I.Denot} _ 0 ∙ c.in_ok-made-in-Items.ensures ∙ take_past _ _ many ∙ ap (drop c.args.count) (c.deref.ensures.value ∙ sym mine))

pub returns-in_ok-back-in-Parts : goal.returns-in_ok-back-in-Parts
returns-in_ok-back-in-Parts g t c =
    let mine : items {I = g.row.I.Denot} c.args.self.now.0 ≡ items_of_parts {I = g.row.I.Denot} c.in-Parts.parts.items = ap (λ p. p.0) (sym c.node.ensures.alike) ∙ ap (λ n. items (leaves_of n)) c.in-Parts.is in
    let spot : IsSpot {I = g.row.I.Denot} c.in-Parts.parts.items c.args.count c.spot_at-spot.result.at c.spot_at-spot.result.rest
    = subst (λ ks. IsSpot {I = g.row.I.Denot} ks c.args.count c.spot_at-spot.result.at c.spot_at-spot.result.rest) c.deref-in-Parts.ensures.value c.spot_at-spot.ensures in
    let ks = c.deref-in-Parts-2.result.now in
    let at = c.spot_at-spot.result.at in
    let many : length (drop (at + 1) ks) ≤ length ks - (at + 1) = let n = length-drop (at + 1) ks in omega (arith, n) in
    let all : take (length ks - (at + 1)) (drop (at + 1) ks) ≡ drop (at + 1) ks = take_past _ _ many in
    let rest = c.in_ok-back-in-Parts.ensures ∙ ap (λ l. items_of_parts {I = g.row.I.Denot} l) all ∙ ap (λ l. items_of_parts {I = g.row.I.Denot} (drop (c.spot_at-spot.result.at + 1) l)) c.deref-in-Parts-2.ensures.value in
    if_ok_then c.joined.result c.joined.ensures (λ k h. h ∙ dropped {I = g.row.I.Denot} _ _ _ _ spot c.index.result.now _ _ c.index.ensures c.in_ok-first-in-Parts.ensures rest ∙ ap (drop c.args.count) (sym mine))

pub gathered_copies-requires : goal.gathered_copies-requires
gathered_copies-requires g t c =
    let level : AreLevel {I = g.row.I.Denot} c.deref-in-Parts-2.result.now = subst (λ l. AreLevel {I = g.row.I.Denot} l) (sym c.deref-in-Parts-2.ensures.value) (subst (IsLevel {I = g.row.I.Denot} {M = g.row.I-Measure.Denot}) c.in-Parts.is c.node.ensures.level) in
    let rank : rank_above {I = g.row.I.Denot} c.deref-in-Parts-2.result.now ≡ c.args.self.now.1 = ap (λ l. rank_above {I = g.row.I.Denot} l) c.deref-in-Parts-2.ensures.value ∙ ap (λ n. rank_of n) (sym c.in-Parts.is) ∙ ap (λ p. p.1) c.node.ensures.alike in
    let ks = c.deref-in-Parts-2.result.now in
    let at = c.spot_at-spot.result.at in
    let many : length (drop (at + 1) ks) ≤ length ks - (at + 1) = let n = length-drop (at + 1) ks in omega (arith, n) in
    let all : take (length ks - (at + 1)) (drop (at + 1) ks) ≡ drop (at + 1) ks = take_past _ _ many in
    let few = level_drop {I = g.row.I.Denot} ks (at + 1) level (omega (arith, rank, c.levels.ensures.rank, c.levels.ensures.few)) in
    record { level = subst (λ l. AreLevel {I = g.row.I.Denot} l) (sym all) few.0; few = subst (λ l. rank_above {I = g.row.I.Denot} l < 64) (sym all) few.1 }

pub spot_at-spot-requires : goal.spot_at-spot-requires
spot_at-spot-requires g t c =
    let mine : items {I = g.row.I.Denot} c.args.self.now.0 ≡ items_of_parts {I = g.row.I.Denot} c.in-Parts.parts.items = ap (λ p. p.0) (sym c.node.ensures.alike) ∙ ap (λ n. items (leaves_of n)) c.in-Parts.is in
    let many = ap length mine in
    let same = ap (λ ks. length (items_of_parts {I = g.row.I.Denot} ks)) c.deref-in-Parts.ensures.value in
    omega (arith, many, same, c.len.ensures, c.if-len-count.false)

pub index-requires : goal.index-requires
index-requires g t c =
    let spot : IsSpot {I = g.row.I.Denot} c.in-Parts.parts.items c.args.count c.spot_at-spot.result.at c.spot_at-spot.result.rest
    = subst (λ ks. IsSpot {I = g.row.I.Denot} ks c.args.count c.spot_at-spot.result.at c.spot_at-spot.result.rest) c.deref-in-Parts.ensures.value c.spot_at-spot.ensures in
    let near = at_in {I = g.row.I.Denot} _ _ _ _ spot in
    omega (arith, near, c.in-Parts.parts.ok)

pub behind-requires : goal.behind-requires
behind-requires g t c κs inside =
    let spot : IsSpot {I = g.row.I.Denot} c.in-Parts.parts.items c.args.count c.spot_at-spot.result.at c.spot_at-spot.result.rest
    = subst (λ ks. IsSpot {I = g.row.I.Denot} ks c.args.count c.spot_at-spot.result.at c.spot_at-spot.result.rest) c.deref-in-Parts.ensures.value c.spot_at-spot.ensures in
    let own : rank_above {I = g.row.I.Denot} c.in-Parts.parts.items ≡ c.args.self.now.1 = ap (λ n. rank_of n) (sym c.in-Parts.is) ∙ ap (λ p. p.1) c.node.ensures.alike in
    let below = lower {I = g.row.I.Denot} _ _ _ _ spot _ c.index.ensures in
    (omega (arith, below, own, c.decreases), search rules)

pub offset_bounds-deref-count : goal.offset_bounds-deref-count
offset_bounds-deref-count g t c =
    let mine : items {I = g.row.I.Denot} c.args.self.now.0 ≡ c.in-Items.leaf.items = ap (λ p. p.0) (sym c.node.ensures.alike) ∙ ap (λ n. items (leaves_of n)) c.in-Items.is ∙ items-one {I = g.row.I.Denot} c.in-Items.leaf.items 0 in
    let many = ap length mine in
    let same = ap length c.deref.ensures.value in
    omega (arith, many, same, c.len.ensures, c.if-len-count.false, c.in-Items.leaf.ok)

pub slice_bounds-items_again-count : goal.slice_bounds-items_again-count
slice_bounds-items_again-count g t c =
    let mine : items {I = g.row.I.Denot} c.args.self.now.0 ≡ c.in-Items.leaf.items = ap (λ p. p.0) (sym c.node.ensures.alike) ∙ ap (λ n. items (leaves_of n)) c.in-Items.is ∙ items-one {I = g.row.I.Denot} c.in-Items.leaf.items 0 in
    let many = ap length mine in
    let same = ap length c.deref.ensures.value in
    omega (arith, many, same, c.len.ensures, c.if-len-count.false, c.in-Items.leaf.ok)

pub slice_bounds-items_again-start : goal.slice_bounds-items_again-start
slice_bounds-items_again-start g t c =
    let mine : items {I = g.row.I.Denot} c.args.self.now.0 ≡ c.in-Items.leaf.items = ap (λ p. p.0) (sym c.node.ensures.alike) ∙ ap (λ n. items (leaves_of n)) c.in-Items.is ∙ items-one {I = g.row.I.Denot} c.in-Items.leaf.items 0 in
    let many = ap length mine in
    let same = ap length c.deref.ensures.value in
    omega (arith, many, same, c.len.ensures, c.if-len-count.false, c.in-Items.leaf.ok)

pub slice_bounds-items_again-end : goal.slice_bounds-items_again-end
slice_bounds-items_again-end g t c =
    let mine : items {I = g.row.I.Denot} c.args.self.now.0 ≡ c.in-Items.leaf.items = ap (λ p. p.0) (sym c.node.ensures.alike) ∙ ap (λ n. items (leaves_of n)) c.in-Items.is ∙ items-one {I = g.row.I.Denot} c.in-Items.leaf.items 0 in
    let many = ap length mine in
    let same = ap length c.deref.ensures.value in
    omega (arith, many, same, c.len.ensures, c.if-len-count.false, c.in-Items.leaf.ok)

pub overflow_add-spot : goal.overflow_add-spot
overflow_add-spot g t c =
    let spot : IsSpot {I = g.row.I.Denot} c.in-Parts.parts.items c.args.count c.spot_at-spot.result.at c.spot_at-spot.result.rest
    = subst (λ ks. IsSpot {I = g.row.I.Denot} ks c.args.count c.spot_at-spot.result.at c.spot_at-spot.result.rest) c.deref-in-Parts.ensures.value c.spot_at-spot.ensures in
    let near = at_in {I = g.row.I.Denot} _ _ _ _ spot in
    let same = ap length c.deref-in-Parts-2.ensures.value in
    omega (arith, near, same, c.in-Parts.parts.ok)

pub offset_bounds-deref-spot : goal.offset_bounds-deref-spot
offset_bounds-deref-spot g t c =
    let spot : IsSpot {I = g.row.I.Denot} c.in-Parts.parts.items c.args.count c.spot_at-spot.result.at c.spot_at-spot.result.rest
    = subst (λ ks. IsSpot {I = g.row.I.Denot} ks c.args.count c.spot_at-spot.result.at c.spot_at-spot.result.rest) c.deref-in-Parts.ensures.value c.spot_at-spot.ensures in
    let near = at_in {I = g.row.I.Denot} _ _ _ _ spot in
    let same = ap length c.deref-in-Parts-2.ensures.value in
    omega (arith, near, same, c.in-Parts.parts.ok)

pub slice_bounds-gathered_copies-count : goal.slice_bounds-gathered_copies-count
slice_bounds-gathered_copies-count g t c =
    let spot : IsSpot {I = g.row.I.Denot} c.in-Parts.parts.items c.args.count c.spot_at-spot.result.at c.spot_at-spot.result.rest
    = subst (λ ks. IsSpot {I = g.row.I.Denot} ks c.args.count c.spot_at-spot.result.at c.spot_at-spot.result.rest) c.deref-in-Parts.ensures.value c.spot_at-spot.ensures in
    let near = at_in {I = g.row.I.Denot} _ _ _ _ spot in
    let same = ap length c.deref-in-Parts-2.ensures.value in
    omega (arith, near, same, c.in-Parts.parts.ok)

pub slice_bounds-gathered_copies-start : goal.slice_bounds-gathered_copies-start
slice_bounds-gathered_copies-start g t c =
    let spot : IsSpot {I = g.row.I.Denot} c.in-Parts.parts.items c.args.count c.spot_at-spot.result.at c.spot_at-spot.result.rest
    = subst (λ ks. IsSpot {I = g.row.I.Denot} ks c.args.count c.spot_at-spot.result.at c.spot_at-spot.result.rest) c.deref-in-Parts.ensures.value c.spot_at-spot.ensures in
    let near = at_in {I = g.row.I.Denot} _ _ _ _ spot in
    let same = ap length c.deref-in-Parts-2.ensures.value in
    omega (arith, near, same, c.in-Parts.parts.ok)

pub slice_bounds-gathered_copies-end : goal.slice_bounds-gathered_copies-end
slice_bounds-gathered_copies-end g t c =
    let spot : IsSpot {I = g.row.I.Denot} c.in-Parts.parts.items c.args.count c.spot_at-spot.result.at c.spot_at-spot.result.rest
    = subst (λ ks. IsSpot {I = g.row.I.Denot} ks c.args.count c.spot_at-spot.result.at c.spot_at-spot.result.rest) c.deref-in-Parts.ensures.value c.spot_at-spot.ensures in
    let near = at_in {I = g.row.I.Denot} _ _ _ _ spot in
    let same = ap length c.deref-in-Parts-2.ensures.value in
    omega (arith, near, same, c.in-Parts.parts.ok)
