use Rattle.df_tree.proofs.LevelLemmas.{rank_set, level_set}
use Rattle.df_tree.specs.Level.{IsLevel, IsLevelLink}
use Rattle.std.proofs.Common.{rules, ◌<◌, ◌+◌, ◌-◌, ℕ, [], ◌∷◌, length, ap, sym, ◌∙◌, arith, subst}
use Rattle.std.specs.Prelude.{min, slice_set, vec_len, vec_capacity}
use Rattle.df_tree.specs.declared.seq.Node.TheVariants.{Items}
use Rattle.df_tree.specs.Leaves.{items, room_at, leaves_of, leaves_of_parts, leaves_of_link, Edited, rank_of, rank_of_link}
use Rattle.df_tree.specs.declared.seq.Seq.TheDeep.{deep-Node}
use Rattle.df_tree.specs.Spots.{IsSpot}
use Rattle.df_tree.proofs.LeafLemmas.{items-one, room-leaf, room-shared, there}
use Rattle.df_tree.proofs.EditLemmas.{edited_leaf, items_put}
use Rattle.std.proofs.lemmas.List.{length-set}
use Rattle.df_tree.proofs.SpotLemmas.{edited, lower, room, at_in}
use Rattle.df_tree.proofs.+put.Goals as goal

pub seq::Seq::put-unreachable-requires : goal.seq::Seq::put-unreachable-requires
seq::Seq::put-unreachable-requires g t c =
    let parts = sym (ap (λ v. v.0) c.self.view_is) ∙ ap (λ l. leaves_of_link l) c.in-Shared.is in
    let none = room-shared {I = g.row.I.Denot} (leaves_of c.in-Shared.field-0.value) c.args.index in
    let e = ap (λ rs. room_at {I = g.row.I.Denot} rs c.args.index) parts in
    omega (arith, none, e, c.requires)

pub editing::put_in_node-put-requires : goal.editing::put_in_node-put-requires
editing::put_in_node-put-requires g t c κs within =
    let spot : IsSpot {I = g.row.I.Denot} c.in-Parts.parts.items c.args.index c.spot_at-spot.result.at c.spot_at-spot.result.rest
    = subst (λ ks. IsSpot {I = g.row.I.Denot} ks c.args.index c.spot_at-spot.result.at c.spot_at-spot.result.rest) c.deref.ensures.value c.spot_at-spot.ensures in
    let there = room {I = g.row.I.Denot} _ _ _ _ spot _ c.index_mut-in-Parts.ensures.value in
    let way = subst (λ n. 1 < room_at {I = g.row.I.Denot} (leaves_of n) c.args.index) c.in-Parts.is c.requires in
    let below = lower {I = g.row.I.Denot} _ _ _ _ spot _ c.index_mut-in-Parts.ensures.value in
    let high = ap (λ n. deep-Node g.row.I.Denot g.row.I-Measure.Denot g.I.Item g.I.Measure.Monoid n) c.in-Parts.is in
    (omega (arith, below, high, c.decreases), (search rules, (search rules, omega (arith, there, way))))

pub editing::put_in_node-index_mut-requires : goal.editing::put_in_node-index_mut-requires
editing::put_in_node-index_mut-requires g t c =
    let way = subst (λ n. 1 < room_at {I = g.row.I.Denot} (leaves_of n) c.args.index) c.in-Items.is c.requires in
    let near = there {I = g.row.I.Denot} (leaves_of {M = g.row.I-Measure.Denot} (Items c.in-Items.items c.in-Items.reserved)) c.args.index (omega (arith, way)) in
    let many = ap length (items-one {I = g.row.I.Denot} c.in-Items.items.items 0) in
    omega (arith, near, many, c.in-Items.items.ok)

pub editing::put_in_node-returns-in-Items-clause-edited : goal.editing::put_in_node-returns-in-Items-clause-edited
editing::put_in_node-returns-in-Items-clause-edited g t c =
    let way = subst (λ n. 1 < room_at {I = g.row.I.Denot} (leaves_of n) c.args.index) c.in-Items.is c.requires in
    let near = there {I = g.row.I.Denot} (leaves_of {M = g.row.I-Measure.Denot} (Items c.in-Items.items c.in-Items.reserved)) c.args.index (omega (arith, way)) in
    let many = ap length (items-one {I = g.row.I.Denot} c.in-Items.items.items 0) in
    let s : ℕ = min c.in-Items.reserved (vec_capacity c.in-Items.items - vec_len c.in-Items.items) + 1 in
    let t : ℕ = min (c.in-Items.reserved - 1) (vec_capacity c.in-Items.items - vec_len c.in-Items.items) + 1 in
    subst (λ n. Edited {I = g.row.I.Denot} (leaves_of n) ((slice_set c.in-Items.items.items c.args.index c.args.item, t) ∷ []) c.args.index (λ xs i. slice_set xs i c.args.item) 1) (sym c.in-Items.is)
    (edited_leaf {I = g.row.I.Denot} c.in-Items.items.items s t c.args.index (λ xs i. slice_set xs i c.args.item) 1 (omega (arith, near, many)) (omega arith))

pub editing::put_in_node-returns-in-Parts-clause-edited : goal.editing::put_in_node-returns-in-Parts-clause-edited
editing::put_in_node-returns-in-Parts-clause-edited g t c =
    let spot : IsSpot {I = g.row.I.Denot} c.in-Parts.parts.items c.args.index c.spot_at-spot.result.at c.spot_at-spot.result.rest
    = subst (λ ks. IsSpot {I = g.row.I.Denot} ks c.args.index c.spot_at-spot.result.at c.spot_at-spot.result.rest) c.deref.ensures.value c.spot_at-spot.ensures in
    subst (λ n. Edited {I = g.row.I.Denot} (leaves_of n) (leaves_of_parts {I = g.row.I.Denot} (slice_set c.in-Parts.parts.items c.spot_at-spot.result.at c.put.new.self)) c.args.index (λ xs i. slice_set xs i c.args.item) 1) (sym c.in-Parts.is)
    (edited {I = g.row.I.Denot} _ _ _ _ spot c.index_mut-in-Parts.result.now c.put.new.self c.index_mut-in-Parts.ensures.value _ 1 c.put.ensures.edited)

pub editing::put_in_node-spot_at-spot-requires : goal.editing::put_in_node-spot_at-spot-requires
editing::put_in_node-spot_at-spot-requires g t c =
    let way = subst (λ n. 1 < room_at {I = g.row.I.Denot} (leaves_of n) c.args.index) c.in-Parts.is c.requires in
    let near = there {I = g.row.I.Denot} (leaves_of_parts {I = g.row.I.Denot} c.in-Parts.parts.items) c.args.index (omega (arith, way)) in
    let same = ap (λ ks. length (items {I = g.row.I.Denot} (leaves_of_parts {I = g.row.I.Denot} ks))) c.deref.ensures.value in
    omega (arith, near, same)

pub editing::put_in_node-overflow_sub-reserved : goal.editing::put_in_node-overflow_sub-reserved
editing::put_in_node-overflow_sub-reserved g t c =
    let way = subst (λ n. 1 < room_at {I = g.row.I.Denot} (leaves_of n) c.args.index) c.in-Items.is c.requires in
    let le = room-leaf {I = g.row.I.Denot} c.in-Items.items.items (min c.in-Items.reserved (vec_capacity c.in-Items.items - vec_len c.in-Items.items) + 1) c.args.index in
    omega (arith, way, le)

pub seq::Seq::put-invariant_of-self : goal.seq::Seq::put-invariant_of-self
seq::Seq::put-invariant_of-self g t c =
    let n = ap length (items_put {I = g.row.I.Denot} _ _ _ _ c.put_in_node.ensures.edited) in
    let more = length-set (items {I = g.row.I.Denot} (leaves_of c.deref_mut-node.result.now)) c.args.index c.args.item in
    let own = ap (λ n. length (items (leaves_of n))) c.deref_mut-node.ensures.value ∙ sym (ap (λ l. length (items (leaves_of_link l))) c.in-Own.is) in
    let high = ap (λ n. rank_of n) c.deref_mut-node.ensures.value ∙ sym (ap (λ l. rank_of_link l) c.in-Own.is) in
    let level = subst (IsLevel {I = g.row.I.Denot} {M = g.row.I-Measure.Denot}) (sym c.deref_mut-node.ensures.value) (subst (IsLevelLink {I = g.row.I.Denot} {M = g.row.I-Measure.Denot}) c.in-Own.is c.self.invariant.level) in
    record {
      counted = omega (arith, n, more, own, c.self.invariant.counted);
      ranked = c.self.invariant.ranked ∙ sym high ∙ sym c.put_in_node.ensures.rank;
      few = c.self.invariant.few;
      measured = c.measure_in-self-inside.ensures;
      level = c.put_in_node.ensures.level level;
    }

pub editing::put_in_node-returns-in-Parts-clause-rank : goal.editing::put_in_node-returns-in-Parts-clause-rank
editing::put_in_node-returns-in-Parts-clause-rank g t c =
    rank_set {I = g.row.I.Denot} _ _ c.index_mut-in-Parts.result.now c.put.new.self c.index_mut-in-Parts.ensures.value c.put.ensures.rank ∙ ap (λ n. rank_of n) (sym c.in-Parts.is)

pub editing::put_in_node-returns-in-Parts-clause-level : goal.editing::put_in_node-returns-in-Parts-clause-level
editing::put_in_node-returns-in-Parts-clause-level g t c = λ h.
    let spot : IsSpot {I = g.row.I.Denot} c.in-Parts.parts.items c.args.index c.spot_at-spot.result.at c.spot_at-spot.result.rest
    = subst (λ ks. IsSpot {I = g.row.I.Denot} ks c.args.index c.spot_at-spot.result.at c.spot_at-spot.result.rest) c.deref.ensures.value c.spot_at-spot.ensures in
    level_set {I = g.row.I.Denot} _ _ c.index_mut-in-Parts.result.now c.put.new.self (at_in {I = g.row.I.Denot} _ _ _ _ spot) c.index_mut-in-Parts.ensures.value c.put.ensures.rank
    (λ n. let m = ap length (items_put {I = g.row.I.Denot} _ _ _ _ c.put.ensures.edited) in let l = length-set (items {I = g.row.I.Denot} c.index_mut-in-Parts.result.now.0) c.spot_at-spot.result.rest c.args.item in omega (arith, m, l, n))
    (subst (IsLevel {I = g.row.I.Denot} {M = g.row.I-Measure.Denot}) c.in-Parts.is h)

pub editing::put_in_node-index_mut-requires-in-Parts : goal.editing::put_in_node-index_mut-requires-in-Parts
editing::put_in_node-index_mut-requires-in-Parts g t c =
    let spot : IsSpot {I = g.row.I.Denot} c.in-Parts.parts.items c.args.index c.spot_at-spot.result.at c.spot_at-spot.result.rest
    = subst (λ ks. IsSpot {I = g.row.I.Denot} ks c.args.index c.spot_at-spot.result.at c.spot_at-spot.result.rest) c.deref.ensures.value c.spot_at-spot.ensures in
    let near = at_in {I = g.row.I.Denot} _ _ _ _ spot in
    omega (arith, near, c.in-Parts.parts.ok)
