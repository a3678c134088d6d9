use Rattle.df_tree.proofs.LevelLemmas.{rank_set, level_set}
use Rattle.df_tree.specs.Level.{IsLevel, IsLevelLink}
use Rattle.std.proofs.Common.{rules, ◌<◌, ◌≤◌, ◌+◌, ◌-◌, ℕ, [], ◌∷◌, length, ap, sym, ◌∙◌, arith, subst}
use Rattle.std.specs.Prelude.{min, slice_set, vec_len, vec_capacity}
use Rattle.std.specs.List.{insert}
use Rattle.df_tree.specs.declared.seq.Node.TheVariants.{Items}
use Rattle.df_tree.specs.Leaves.{items, room_at, leaves_of, leaves_of_parts, leaves_of_link, Edited, rank_of, rank_of_link}
use Rattle.df_tree.specs.declared.seq.Seq.TheDeep.{deep-Node}
use Rattle.df_tree.specs.Spots.{IsSpot}
use Rattle.std.proofs.lemmas.List.Edits.{length-insert}
use Rattle.df_tree.proofs.LeafLemmas.{items-one, room-leaf, room-shared, there}
use Rattle.df_tree.proofs.EditLemmas.{edited_in, edited_leaf, items_put_in}
use Rattle.df_tree.proofs.SpotLemmas.{edited, fewer, lower, room, at_in}
use Rattle.df_tree.proofs.+put_in.Goals as goal

pub seq::Seq::put_in-unreachable-requires : goal.seq::Seq::put_in-unreachable-requires
seq::Seq::put_in-unreachable-requires g t c =
    let parts = sym (ap (λ v. v.0) c.self.view_is) ∙ ap (λ l. leaves_of_link l) c.in-Shared.is in
    let none = room-shared {I = g.row.I.Denot} (leaves_of c.in-Shared.field-0.value) c.args.index in
    let e = ap (λ rs. room_at {I = g.row.I.Denot} rs c.args.index) parts in
    omega (arith, none, e, c.requires.room)

pub editing::insert_in_node-unreachable-requires : goal.editing::insert_in_node-unreachable-requires
editing::insert_in_node-unreachable-requires g t c =
    let way = subst (λ n. 1 < room_at {I = g.row.I.Denot} (leaves_of n) c.args.index) c.in-Items.is c.requires.room in
    let le = room-leaf {I = g.row.I.Denot} c.in-Items.items.items (min c.in-Items.reserved (vec_capacity c.in-Items.items - vec_len c.in-Items.items) + 1) c.args.index in
    let ok = c.in-Err.ensures.succeeds (omega (arith, way, le)) in
    cc ok

pub editing::insert_in_node-put_in-requires : goal.editing::insert_in_node-put_in-requires
editing::insert_in_node-put_in-requires g t c κs within =
    let spot : IsSpot {I = g.row.I.Denot} c.in-Parts.parts.items c.args.index c.spot_at-spot.result.at c.spot_at-spot.result.rest
    = subst (λ ks. IsSpot {I = g.row.I.Denot} ks c.args.index c.spot_at-spot.result.at c.spot_at-spot.result.rest) c.deref.ensures.value c.spot_at-spot.ensures in
    let there = room {I = g.row.I.Denot} _ _ _ _ spot _ c.index_mut.ensures.value in
    let way = subst (λ n. 1 < room_at {I = g.row.I.Denot} (leaves_of n) c.args.index) c.in-Parts.is c.requires.room in
    let below = lower {I = g.row.I.Denot} _ _ _ _ spot _ c.index_mut.ensures.value in
    let less = fewer {I = g.row.I.Denot} _ _ _ _ spot _ c.index_mut.ensures.value in
    let all = ap (λ n. length (items (leaves_of n))) c.in-Parts.is in
    let high = ap (λ n. deep-Node g.row.I.Denot g.row.I-Measure.Denot g.I.Item g.I.Measure.Monoid n) c.in-Parts.is in
    (omega (arith, below, high, c.decreases), (search rules, (search rules, (omega (arith, there, way), (c.requires.side, omega (arith, less, all, c.requires.fits))))))

pub editing::insert_in_node-insert-requires : goal.editing::insert_in_node-insert-requires
editing::insert_in_node-insert-requires g t c =
    let way = subst (λ n. 1 < room_at {I = g.row.I.Denot} (leaves_of n) c.args.index) c.in-Items.is c.requires.room in
    let near = there {I = g.row.I.Denot} (leaves_of {M = g.row.I-Measure.Denot} (Items c.in-Items.items c.in-Items.reserved)) c.args.index (omega (arith, way)) in
    let many = ap length (items-one {I = g.row.I.Denot} c.in-Items.items.items 0) in
    omega (arith, near, many, c.in-Items.items.ok, c.requires.side)

pub editing::insert_in_node-returns-in-Parts-clause-edited : goal.editing::insert_in_node-returns-in-Parts-clause-edited
editing::insert_in_node-returns-in-Parts-clause-edited g t c =
    let spot : IsSpot {I = g.row.I.Denot} c.in-Parts.parts.items c.args.index c.spot_at-spot.result.at c.spot_at-spot.result.rest
    = subst (λ ks. IsSpot {I = g.row.I.Denot} ks c.args.index c.spot_at-spot.result.at c.spot_at-spot.result.rest) c.deref.ensures.value c.spot_at-spot.ensures in
    subst (λ n. Edited {I = g.row.I.Denot} (leaves_of n) (leaves_of_parts {I = g.row.I.Denot} (slice_set c.in-Parts.parts.items c.spot_at-spot.result.at c.put_in.new.self)) c.args.index (λ xs i. insert xs (i + c.args.side) c.args.item) 1) (sym c.in-Parts.is)
    (edited {I = g.row.I.Denot} _ _ _ _ spot c.index_mut.result.now c.put_in.new.self c.index_mut.ensures.value _ 1 c.put_in.ensures.edited)

pub editing::insert_in_node-spot_at-spot-requires : goal.editing::insert_in_node-spot_at-spot-requires
editing::insert_in_node-spot_at-spot-requires g t c =
    let way = subst (λ n. 1 < room_at {I = g.row.I.Denot} (leaves_of n) c.args.index) c.in-Parts.is c.requires.room in
    let near = there {I = g.row.I.Denot} (leaves_of_parts {I = g.row.I.Denot} c.in-Parts.parts.items) c.args.index (omega (arith, way)) in
    let same = ap (λ ks. length (items {I = g.row.I.Denot} (leaves_of_parts {I = g.row.I.Denot} ks))) c.deref.ensures.value in
    omega (arith, near, same)

pub editing::insert_in_node-overflow_sub-reserved : goal.editing::insert_in_node-overflow_sub-reserved
editing::insert_in_node-overflow_sub-reserved g t c =
    let way = subst (λ n. 1 < room_at {I = g.row.I.Denot} (leaves_of n) c.args.index) c.in-Items.is c.requires.room in
    let le = room-leaf {I = g.row.I.Denot} c.in-Items.items.items (min c.in-Items.reserved (vec_capacity c.in-Items.items - vec_len c.in-Items.items) + 1) c.args.index in
    omega (arith, way, le)

pub editing::insert_in_node-returns-in-Ok-clause-edited : goal.editing::insert_in_node-returns-in-Ok-clause-edited
editing::insert_in_node-returns-in-Ok-clause-edited g t c =
    let way = subst (λ n. 1 < room_at {I = g.row.I.Denot} (leaves_of n) c.args.index) c.in-Items.is c.requires.room in
    let near = there {I = g.row.I.Denot} (leaves_of {M = g.row.I-Measure.Denot} (Items c.in-Items.items c.in-Items.reserved)) c.args.index (omega (arith, way)) in
    let many = ap length (items-one {I = g.row.I.Denot} c.in-Items.items.items 0) in
    let s : ℕ = min c.in-Items.reserved (vec_capacity c.in-Items.items - vec_len c.in-Items.items) + 1 in
    let t : ℕ = min (c.in-Items.reserved - 1) (vec_capacity c.insert.new.self - vec_len c.insert.new.self) + 1 in
    let cost : s ≤ t + 1 = omega (arith, c.in-Ok.ensures.len, c.in-Ok.ensures.capacity, c.in-Items.items.ok) in
    subst (λ n. Edited {I = g.row.I.Denot} (leaves_of n) ((c.insert.new.self.items, t) ∷ []) c.args.index (λ xs i. insert xs (i + c.args.side) c.args.item) 1) (sym c.in-Items.is)
    (subst (λ l. Edited {I = g.row.I.Denot} (leaves_of {M = g.row.I-Measure.Denot} (Items c.in-Items.items c.in-Items.reserved)) ((l, t) ∷ []) c.args.index (λ xs i. insert xs (i + c.args.side) c.args.item) 1) (sym c.in-Ok.ensures.items)
    (edited_leaf {I = g.row.I.Denot} c.in-Items.items.items s t c.args.index (λ xs i. insert xs (i + c.args.side) c.args.item) 1 (omega (arith, near, many)) cost))

pub seq::Seq::put_in-invariant_of-self : goal.seq::Seq::put_in-invariant_of-self
seq::Seq::put_in-invariant_of-self g t c =
    let near = edited_in {I = g.row.I.Denot} _ _ _ _ _ c.insert_in_node.ensures.edited in
    let n = ap length (items_put_in {I = g.row.I.Denot} _ _ _ _ _ c.requires.side c.insert_in_node.ensures.edited) in
    let more = length-insert (items {I = g.row.I.Denot} (leaves_of c.deref_mut-node.result.now)) (c.args.index + c.args.side) c.args.item (omega (arith, near, c.requires.side)) in
    let own = ap (λ n. length (items (leaves_of n))) c.deref_mut-node.ensures.value ∙ sym (ap (λ l. length (items (leaves_of_link l))) c.in-Own.is) in
    let high = ap (λ n. rank_of n) c.deref_mut-node.ensures.value ∙ sym (ap (λ l. rank_of_link l) c.in-Own.is) in
    let level = subst (IsLevel {I = g.row.I.Denot} {M = g.row.I-Measure.Denot}) (sym c.deref_mut-node.ensures.value) (subst (IsLevelLink {I = g.row.I.Denot} {M = g.row.I-Measure.Denot}) c.in-Own.is c.self.invariant.level) in
    record {
      counted = omega (arith, n, more, own, c.self.invariant.counted);
      ranked = c.self.invariant.ranked ∙ sym high ∙ sym c.insert_in_node.ensures.rank;
      few = c.self.invariant.few;
      measured = c.measure_in-self-inside.ensures;
      level = c.insert_in_node.ensures.level level;
    }

pub editing::insert_in_node-returns-in-Parts-clause-rank : goal.editing::insert_in_node-returns-in-Parts-clause-rank
editing::insert_in_node-returns-in-Parts-clause-rank g t c =
    rank_set {I = g.row.I.Denot} _ _ c.index_mut.result.now c.put_in.new.self c.index_mut.ensures.value c.put_in.ensures.rank ∙ ap (λ n. rank_of n) (sym c.in-Parts.is)

pub editing::insert_in_node-returns-in-Parts-clause-level : goal.editing::insert_in_node-returns-in-Parts-clause-level
editing::insert_in_node-returns-in-Parts-clause-level g t c = λ h.
    let spot : IsSpot {I = g.row.I.Denot} c.in-Parts.parts.items c.args.index c.spot_at-spot.result.at c.spot_at-spot.result.rest
    = subst (λ ks. IsSpot {I = g.row.I.Denot} ks c.args.index c.spot_at-spot.result.at c.spot_at-spot.result.rest) c.deref.ensures.value c.spot_at-spot.ensures in
    level_set {I = g.row.I.Denot} _ _ c.index_mut.result.now c.put_in.new.self (at_in {I = g.row.I.Denot} _ _ _ _ spot) c.index_mut.ensures.value c.put_in.ensures.rank
    (λ n. let near = edited_in {I = g.row.I.Denot} _ _ _ _ _ c.put_in.ensures.edited in let m = ap length (items_put_in {I = g.row.I.Denot} _ _ _ _ _ c.requires.side c.put_in.ensures.edited) in let l = length-insert (items {I = g.row.I.Denot} c.index_mut.result.now.0) (c.spot_at-spot.result.rest + c.args.side) c.args.item (omega (arith, near, c.requires.side)) in omega (arith, m, l, n))
    (subst (IsLevel {I = g.row.I.Denot} {M = g.row.I-Measure.Denot}) c.in-Parts.is h)

pub editing::insert_in_node-index_mut-requires : goal.editing::insert_in_node-index_mut-requires
editing::insert_in_node-index_mut-requires g t c =
    let spot : IsSpot {I = g.row.I.Denot} c.in-Parts.parts.items c.args.index c.spot_at-spot.result.at c.spot_at-spot.result.rest
    = subst (λ ks. IsSpot {I = g.row.I.Denot} ks c.args.index c.spot_at-spot.result.at c.spot_at-spot.result.rest) c.deref.ensures.value c.spot_at-spot.ensures in
    let near = at_in {I = g.row.I.Denot} _ _ _ _ spot in
    omega (arith, near, c.in-Parts.parts.ok)
