use Rattle.std.proofs.Common.{rules, ◌≡◌, ◌≤◌, ◌+◌, ◌-◌, ◌++◌, suc, refl, length, take, drop, map, ap, sym, ◌∙◌, arith, subst, length-drop}
use Rattle.std.proofs.lemmas.List.{length-take-le}
use Rattle.df_tree.specs.Leaves.{alike, items, items_of_parts, leaves_of, rank_above, rank_of}
use Rattle.df_tree.specs.Level.{AreLevel, IsLevel}
use Rattle.df_tree.specs.Spots.{IsSpot}
use Rattle.df_tree.proofs.LeafLemmas.{items-one, take_past}
use Rattle.df_tree.proofs.SpotLemmas.{at_in, lower, within}
use Rattle.df_tree.proofs.JoinLemmas.{patched, put_as}
use Rattle.df_tree.proofs.CutLemmas.{replaced_at}
use Rattle.df_tree.proofs.Outcomes.{if_ok_then}
use Rattle.df_tree.proofs.replacing.+push_replaced.Goals as goal

pub push_replaced_items-requires-clause-within : goal.push_replaced_items-requires-clause-within
push_replaced_items-requires-clause-within g t c =
    let mine : items {I = g.row.I.Denot} c.args.seq.now.0 ≡ c.deref.result.now = ap (λ p. p.0) (sym c.node.ensures.alike) ∙ ap (λ n. items (leaves_of n)) c.in-Items.is ∙ items-one {I = g.row.I.Denot} c.in-Items.leaf.items 0 ∙ sym c.deref.ensures.value in
    let many = ap length mine in
    omega (arith, many, c.requires.within)

pub returns-in-Items : goal.returns-in-Items
returns-in-Items g t c =
    let mine : items {I = g.row.I.Denot} c.args.seq.now.0 ≡ c.deref.result.now = ap (λ p. p.0) (sym c.node.ensures.alike) ∙ ap (λ n. items (leaves_of n)) c.in-Items.is ∙ items-one {I = g.row.I.Denot} c.in-Items.leaf.items 0 ∙ sym c.deref.ensures.value in
    let low : 0 ≡ c.args.seq.now.1 = sym (ap (λ p. p.1) (sym c.node.ensures.alike) ∙ ap (λ n. rank_of n) c.in-Items.is) in
    if_ok_then c.push_replaced_items.result c.push_replaced_items.ensures (λ _ h. put_as {I = g.row.I.Denot} _ _ _ _ _ _ low (ap (λ l. take c.args.index l ++ (c.args.run.items ++ drop (c.args.index + 1) l)) (sym mine)) h)

pub spot_at-spot-requires : goal.spot_at-spot-requires
spot_at-spot-requires g t c =
    let mine : items {I = g.row.I.Denot} c.args.seq.now.0 ≡ items_of_parts {I = g.row.I.Denot} c.in-Parts.parts.items = ap (λ p. p.0) (sym c.node.ensures.alike) ∙ ap (λ n. items (leaves_of n)) c.in-Parts.is in
    let many = ap length mine in
    let same = ap (λ ks. length (items_of_parts {I = g.row.I.Denot} ks)) c.deref-in-Parts.ensures.value in
    omega (arith, many, same, c.requires.within)

pub index-requires : goal.index-requires
index-requires g t c =
    let spot : IsSpot {I = g.row.I.Denot} c.in-Parts.parts.items c.args.index c.spot_at-spot.result.at c.spot_at-spot.result.rest
    = subst (λ ks. IsSpot {I = g.row.I.Denot} ks c.args.index c.spot_at-spot.result.at c.spot_at-spot.result.rest) c.deref-in-Parts.ensures.value c.spot_at-spot.ensures in
    let near = at_in {I = g.row.I.Denot} _ _ _ _ spot in
    omega (arith, near, c.in-Parts.parts.ok)

pub push_replaced-requires : goal.push_replaced-requires
push_replaced-requires g t c κs inside =
    let spot : IsSpot {I = g.row.I.Denot} c.in-Parts.parts.items c.args.index c.spot_at-spot.result.at c.spot_at-spot.result.rest
    = subst (λ ks. IsSpot {I = g.row.I.Denot} ks c.args.index c.spot_at-spot.result.at c.spot_at-spot.result.rest) c.deref-in-Parts.ensures.value c.spot_at-spot.ensures in
    let near = at_in {I = g.row.I.Denot} _ _ _ _ spot in
    let own : rank_above {I = g.row.I.Denot} c.in-Parts.parts.items ≡ c.args.seq.now.1 = ap (λ n. rank_of n) (sym c.in-Parts.is) ∙ ap (λ p. p.1) c.node.ensures.alike in
    let below = lower {I = g.row.I.Denot} _ _ _ _ spot _ c.index.ensures in
    (omega (arith, below, own, c.decreases), (search rules, (search rules, (within {I = g.row.I.Denot} _ _ _ _ spot _ c.index.ensures, c.requires.some))))

pub push_parts-requires : goal.push_parts-requires
push_parts-requires g t c =
    let own : rank_above {I = g.row.I.Denot} c.in-Parts.parts.items ≡ c.args.seq.now.1 = ap (λ n. rank_of n) (sym c.in-Parts.is) ∙ ap (λ p. p.1) c.node.ensures.alike in
    let spot : IsSpot {I = g.row.I.Denot} c.in-Parts.parts.items c.args.index c.spot_at-spot.result.at c.spot_at-spot.result.rest
    = subst (λ ks. IsSpot {I = g.row.I.Denot} ks c.args.index c.spot_at-spot.result.at c.spot_at-spot.result.rest) c.deref-in-Parts.ensures.value c.spot_at-spot.ensures in
    let near = at_in {I = g.row.I.Denot} _ _ _ _ spot in
    let level : AreLevel {I = g.row.I.Denot} c.in-Parts.parts.items = subst (IsLevel {I = g.row.I.Denot} {M = g.row.I-Measure.Denot}) c.in-Parts.is c.node.ensures.level in
    let at = c.spot_at-spot.result.at in
    let ks = c.deref-in-Parts-3.result.now in
    let many : length (drop (at + 1) ks) ≤ length ks - (at + 1) = let n = length-drop (at + 1) ks in omega (arith, n) in
    let next : at + 1 ≡ suc at = omega arith in
    let front : map (alike {I = g.row.I.Denot}) c.in_ok-made-in-Parts.made.items ≡ map (alike {I = g.row.I.Denot}) (take at c.in-Parts.parts.items) = c.in_ok-made-in-Parts.ensures ∙ ap (λ ks. map (alike {I = g.row.I.Denot}) (take at ks)) c.deref-in-Parts-2.ensures.value in
    let back : map (alike {I = g.row.I.Denot}) c.in_ok-rest-in-Parts.rest.items ≡ map (alike {I = g.row.I.Denot}) (drop (suc at) c.in-Parts.parts.items)
    = c.in_ok-rest-in-Parts.ensures ∙ ap (map (alike {I = g.row.I.Denot})) (take_past _ _ many) ∙ ap (λ ks. map (alike {I = g.row.I.Denot}) (drop (at + 1) ks)) c.deref-in-Parts-3.ensures.value ∙ ap (λ n. map (alike {I = g.row.I.Denot}) (drop n c.in-Parts.parts.items)) next in
    let whole = patched {I = g.row.I.Denot} c.in-Parts.parts.items c.in_ok-made-in-Parts.made.items c.in_ok-rest-in-Parts.rest.items c.push_replaced.new.to.items c.append.new.self.items at c.index.result.now c.index.result.now.1 _ level near c.index.ensures refl front back c.in_ok-push_replaced-in-Parts.ensures c.in_ok-append-in-Parts.ensures.items in
    record { level = whole.level; some = whole.some; few = omega (arith, whole.rank_is, own, c.levels.ensures.rank, c.levels.ensures.few) }

pub returns-in_ok-append-in-Parts : goal.returns-in_ok-append-in-Parts
returns-in_ok-append-in-Parts g t c =
    let mine : items {I = g.row.I.Denot} c.args.seq.now.0 ≡ items_of_parts {I = g.row.I.Denot} c.in-Parts.parts.items = ap (λ p. p.0) (sym c.node.ensures.alike) ∙ ap (λ n. items (leaves_of n)) c.in-Parts.is in
    let own : rank_above {I = g.row.I.Denot} c.in-Parts.parts.items ≡ c.args.seq.now.1 = ap (λ n. rank_of n) (sym c.in-Parts.is) ∙ ap (λ p. p.1) c.node.ensures.alike in
    let spot : IsSpot {I = g.row.I.Denot} c.in-Parts.parts.items c.args.index c.spot_at-spot.result.at c.spot_at-spot.result.rest
    = subst (λ ks. IsSpot {I = g.row.I.Denot} ks c.args.index c.spot_at-spot.result.at c.spot_at-spot.result.rest) c.deref-in-Parts.ensures.value c.spot_at-spot.ensures in
    let near = at_in {I = g.row.I.Denot} _ _ _ _ spot in
    let level : AreLevel {I = g.row.I.Denot} c.in-Parts.parts.items = subst (IsLevel {I = g.row.I.Denot} {M = g.row.I-Measure.Denot}) c.in-Parts.is c.node.ensures.level in
    let at = c.spot_at-spot.result.at in
    let ks = c.deref-in-Parts-3.result.now in
    let many : length (drop (at + 1) ks) ≤ length ks - (at + 1) = let n = length-drop (at + 1) ks in omega (arith, n) in
    let next : at + 1 ≡ suc at = omega arith in
    let front : map (alike {I = g.row.I.Denot}) c.in_ok-made-in-Parts.made.items ≡ map (alike {I = g.row.I.Denot}) (take at c.in-Parts.parts.items) = c.in_ok-made-in-Parts.ensures ∙ ap (λ ks. map (alike {I = g.row.I.Denot}) (take at ks)) c.deref-in-Parts-2.ensures.value in
    let back : map (alike {I = g.row.I.Denot}) c.in_ok-rest-in-Parts.rest.items ≡ map (alike {I = g.row.I.Denot}) (drop (suc at) c.in-Parts.parts.items)
    = c.in_ok-rest-in-Parts.ensures ∙ ap (map (alike {I = g.row.I.Denot})) (take_past _ _ many) ∙ ap (λ ks. map (alike {I = g.row.I.Denot}) (drop (at + 1) ks)) c.deref-in-Parts-3.ensures.value ∙ ap (λ n. map (alike {I = g.row.I.Denot}) (drop n c.in-Parts.parts.items)) next in
    let whole = patched {I = g.row.I.Denot} c.in-Parts.parts.items c.in_ok-made-in-Parts.made.items c.in_ok-rest-in-Parts.rest.items c.push_replaced.new.to.items c.append.new.self.items at c.index.result.now c.index.result.now.1 _ level near c.index.ensures refl front back c.in_ok-push_replaced-in-Parts.ensures c.in_ok-append-in-Parts.ensures.items in
    let back_is = ap (λ n. items_of_parts {I = g.row.I.Denot} (take at c.in-Parts.parts.items) ++ ((take c.spot_at-spot.result.rest (items {I = g.row.I.Denot} c.index.result.now.0) ++ (c.args.run.items ++ drop (c.spot_at-spot.result.rest + 1) (items {I = g.row.I.Denot} c.index.result.now.0))) ++ items_of_parts {I = g.row.I.Denot} (drop n c.in-Parts.parts.items))) (sym next) in
    if_ok_then c.push_parts.result c.push_parts.ensures
    (λ _ h. put_as {I = g.row.I.Denot} _ _ _ _ _ _ (whole.rank_is ∙ own)
    (whole.holds ∙ back_is ∙ replaced_at {I = g.row.I.Denot} _ _ _ _ spot c.index.result.now c.args.run.items c.index.ensures ∙ ap (λ l. take c.args.index l ++ (c.args.run.items ++ drop (c.args.index + 1) l)) (sym mine)) h)

pub overflow_add-spot : goal.overflow_add-spot
overflow_add-spot g t c =
    let spot : IsSpot {I = g.row.I.Denot} c.in-Parts.parts.items c.args.index c.spot_at-spot.result.at c.spot_at-spot.result.rest
    = subst (λ ks. IsSpot {I = g.row.I.Denot} ks c.args.index c.spot_at-spot.result.at c.spot_at-spot.result.rest) c.deref-in-Parts.ensures.value c.spot_at-spot.ensures in
    let near = at_in {I = g.row.I.Denot} _ _ _ _ spot in
    let same = ap length c.deref-in-Parts-3.ensures.value in
    omega (arith, near, same, c.in-Parts.parts.ok)

pub offset_bounds-deref-spot : goal.offset_bounds-deref-spot
offset_bounds-deref-spot g t c =
    let spot : IsSpot {I = g.row.I.Denot} c.in-Parts.parts.items c.args.index c.spot_at-spot.result.at c.spot_at-spot.result.rest
    = subst (λ ks. IsSpot {I = g.row.I.Denot} ks c.args.index c.spot_at-spot.result.at c.spot_at-spot.result.rest) c.deref-in-Parts.ensures.value c.spot_at-spot.ensures in
    let near = at_in {I = g.row.I.Denot} _ _ _ _ spot in
    let same = ap length c.deref-in-Parts-3.ensures.value in
    omega (arith, near, same, c.in-Parts.parts.ok)

pub slice_bounds-copied_parts-start : goal.slice_bounds-copied_parts-start
slice_bounds-copied_parts-start g t c =
    let spot : IsSpot {I = g.row.I.Denot} c.in-Parts.parts.items c.args.index c.spot_at-spot.result.at c.spot_at-spot.result.rest
    = subst (λ ks. IsSpot {I = g.row.I.Denot} ks c.args.index c.spot_at-spot.result.at c.spot_at-spot.result.rest) c.deref-in-Parts.ensures.value c.spot_at-spot.ensures in
    let near = at_in {I = g.row.I.Denot} _ _ _ _ spot in
    let same = ap length c.deref-in-Parts-3.ensures.value in
    omega (arith, near, same, c.in-Parts.parts.ok)

pub slice_bounds-copied_parts-end : goal.slice_bounds-copied_parts-end
slice_bounds-copied_parts-end g t c =
    let spot : IsSpot {I = g.row.I.Denot} c.in-Parts.parts.items c.args.index c.spot_at-spot.result.at c.spot_at-spot.result.rest
    = subst (λ ks. IsSpot {I = g.row.I.Denot} ks c.args.index c.spot_at-spot.result.at c.spot_at-spot.result.rest) c.deref-in-Parts.ensures.value c.spot_at-spot.ensures in
    let near = at_in {I = g.row.I.Denot} _ _ _ _ spot in
    let same = ap length c.deref-in-Parts-2.ensures.value in
    sym (length-take-le c.spot_at-spot.result.at c.deref-in-Parts-2.result.now (omega (arith, near, same)))

pub slice_bounds-copied_parts-count : goal.slice_bounds-copied_parts-count
slice_bounds-copied_parts-count g t c =
    let spot : IsSpot {I = g.row.I.Denot} c.in-Parts.parts.items c.args.index c.spot_at-spot.result.at c.spot_at-spot.result.rest
    = subst (λ ks. IsSpot {I = g.row.I.Denot} ks c.args.index c.spot_at-spot.result.at c.spot_at-spot.result.rest) c.deref-in-Parts.ensures.value c.spot_at-spot.ensures in
    let near = at_in {I = g.row.I.Denot} _ _ _ _ spot in
    let same = ap length c.deref-in-Parts-3.ensures.value in
    omega (arith, near, same, c.in-Parts.parts.ok)
