use Rattle.df_tree.proofs.LevelLemmas.{lowered, one_set, part_at}
use Rattle.df_tree.specs.Level.{IsLevel, IsLevelLink, AreLevel}
use Rattle.std.proofs.Common.{rules, ◌<◌, ◌≤◌, ◌+◌, ◌-◌, ℕ, [], ◌∷◌, length, ap, sym, ◌∙◌, refl, arith, subst}
use Rattle.std.specs.Prelude.{min, slice_get, slice_set, vec_len, vec_capacity}
use Rattle.std.specs.List.{remove}
use Rattle.df_tree.specs.declared.seq.Node.TheVariants.{Items}
use Rattle.df_tree.specs.Leaves.{items, room_at, leaves_of, leaves_of_parts, leaves_of_link, Edited, Taken, rank_of, rank_of_link, rank_above}
use Rattle.df_tree.specs.declared.seq.Seq.TheDeep.{deep-Node}
use Rattle.df_tree.specs.Spots.{IsSpot}
use Rattle.std.proofs.lemmas.Option.{slice_get_read}
use Rattle.std.proofs.lemmas.List.Edits.{length-remove}
use Rattle.df_tree.proofs.LeafLemmas.{items-one, room-leaf, room-shared, there}
use Rattle.df_tree.proofs.EditLemmas.{edited_in, edited_leaf, items_take}
use Rattle.df_tree.proofs.PlanLemmas.{kept_refl}
use Rattle.df_tree.proofs.SpotLemmas.{got, lower, room, taken, taken_then, at_in}
use Rattle.df_tree.proofs.+take_at.Goals as goal

pub seq::Seq::take_at-unreachable-requires : goal.seq::Seq::take_at-unreachable-requires
seq::Seq::take_at-unreachable-requires g t c =
    let parts = sym (ap (λ v. v.0) c.self.view_is) ∙ ap (λ l. leaves_of_link l) c.in-Shared.is in
    let none = room-shared {I = g.row.I.Denot} (leaves_of c.in-Shared.field-0.value) c.args.index in
    let e = ap (λ rs. room_at {I = g.row.I.Denot} rs c.args.index) parts in
    omega (arith, none, e, c.requires)

pub editing::take_from_node-take_at-item-requires : goal.editing::take_from_node-take_at-item-requires
editing::take_from_node-take_at-item-requires g t c κs within =
    let spot : IsSpot {I = g.row.I.Denot} c.in-Parts.parts.items c.args.index c.spot_at-spot.result.at c.spot_at-spot.result.rest
    = subst (λ ks. IsSpot {I = g.row.I.Denot} ks c.args.index c.spot_at-spot.result.at c.spot_at-spot.result.rest) c.deref.ensures.value c.spot_at-spot.ensures in
    let there = room {I = g.row.I.Denot} _ _ _ _ spot _ c.index_mut.ensures.value in
    let way = subst (λ n. 1 < room_at {I = g.row.I.Denot} (leaves_of n) c.args.index) c.in-Parts.is c.requires in
    let below = lower {I = g.row.I.Denot} _ _ _ _ spot _ c.index_mut.ensures.value in
    let high = ap (λ n. deep-Node g.row.I.Denot g.row.I-Measure.Denot g.I.Item g.I.Measure.Monoid n) c.in-Parts.is in
    (omega (arith, below, high, c.decreases), (search rules, (search rules, omega (arith, there, way))))

pub editing::take_from_node-remove-item-requires : goal.editing::take_from_node-remove-item-requires
editing::take_from_node-remove-item-requires g t c =
    let way = subst (λ n. 1 < room_at {I = g.row.I.Denot} (leaves_of n) c.args.index) c.in-Items.is c.requires in
    let near = there {I = g.row.I.Denot} (leaves_of {M = g.row.I-Measure.Denot} (Items c.in-Items.items c.in-Items.reserved)) c.args.index (omega (arith, way)) in
    let many = ap length (items-one {I = g.row.I.Denot} c.in-Items.items.items 0) in
    omega (arith, near, many, c.in-Items.items.ok)

pub editing::take_from_node-returns-in-Items-clause-taken : goal.editing::take_from_node-returns-in-Items-clause-taken
editing::take_from_node-returns-in-Items-clause-taken g t c =
    let way = subst (λ n. 1 < room_at {I = g.row.I.Denot} (leaves_of n) c.args.index) c.in-Items.is c.requires in
    let near = there {I = g.row.I.Denot} (leaves_of {M = g.row.I-Measure.Denot} (Items c.in-Items.items c.in-Items.reserved)) c.args.index (omega (arith, way)) in
    let many = ap length (items-one {I = g.row.I.Denot} c.in-Items.items.items 0) in
    ap (λ n. slice_get (items {I = g.row.I.Denot} (leaves_of n)) c.args.index) c.in-Items.is
    ∙ ap (λ l. slice_get l c.args.index) (items-one {I = g.row.I.Denot} c.in-Items.items.items 0)
    ∙ slice_get_read c.in-Items.items.items (length c.in-Items.items.items) c.args.index c.remove-item.result refl (omega (arith, near, many)) c.remove-item.ensures.value

pub editing::take_from_node-returns-in-Items-clause-gone : goal.editing::take_from_node-returns-in-Items-clause-gone
editing::take_from_node-returns-in-Items-clause-gone g t c =
    let way = subst (λ n. 1 < room_at {I = g.row.I.Denot} (leaves_of n) c.args.index) c.in-Items.is c.requires in
    let near = there {I = g.row.I.Denot} (leaves_of {M = g.row.I-Measure.Denot} (Items c.in-Items.items c.in-Items.reserved)) c.args.index (omega (arith, way)) in
    let many = ap length (items-one {I = g.row.I.Denot} c.in-Items.items.items 0) in
    let s : ℕ = min c.in-Items.reserved (vec_capacity c.in-Items.items - vec_len c.in-Items.items) + 1 in
    let t : ℕ = min (c.in-Items.reserved - 1) (vec_capacity c.remove-item.new.self - vec_len c.remove-item.new.self) + 1 in
    let cost : s ≤ t + 1 = omega (arith, c.remove-item.ensures.len, c.remove-item.ensures.capacity) in
    let done = subst (λ n. Edited {I = g.row.I.Denot} (leaves_of n) ((c.remove-item.new.self.items, t) ∷ []) c.args.index (λ xs i. remove xs i) 1) (sym c.in-Items.is)
    (subst (λ l. Edited {I = g.row.I.Denot} (leaves_of {M = g.row.I-Measure.Denot} (Items c.in-Items.items c.in-Items.reserved)) ((l, t) ∷ []) c.args.index (λ xs i. remove xs i) 1) (sym c.remove-item.ensures.items)
    (edited_leaf {I = g.row.I.Denot} c.in-Items.items.items s t c.args.index (λ xs i. remove xs i) 1 (omega (arith, near, many)) cost)) in
    record { mid = (c.remove-item.new.self.items, t) ∷ []; edited = done; kept = kept_refl {I = g.row.I.Denot} ((c.remove-item.new.self.items, t) ∷ []) }

pub editing::take_from_node-returns-in-Parts-clause-taken : goal.editing::take_from_node-returns-in-Parts-clause-taken
editing::take_from_node-returns-in-Parts-clause-taken g t c =
    let spot : IsSpot {I = g.row.I.Denot} c.in-Parts.parts.items c.args.index c.spot_at-spot.result.at c.spot_at-spot.result.rest
    = subst (λ ks. IsSpot {I = g.row.I.Denot} ks c.args.index c.spot_at-spot.result.at c.spot_at-spot.result.rest) c.deref.ensures.value c.spot_at-spot.ensures in
    ap (λ n. slice_get (items {I = g.row.I.Denot} (leaves_of n)) c.args.index) c.in-Parts.is
    ∙ got {I = g.row.I.Denot} _ _ _ _ spot _ _ c.index_mut.ensures.value c.take_at-item.ensures.taken

pub editing::take_from_node-returns-in-Parts-clause-gone : goal.editing::take_from_node-returns-in-Parts-clause-gone
editing::take_from_node-returns-in-Parts-clause-gone g t c =
    let spot : IsSpot {I = g.row.I.Denot} c.in-Parts.parts.items c.args.index c.spot_at-spot.result.at c.spot_at-spot.result.rest
    = subst (λ ks. IsSpot {I = g.row.I.Denot} ks c.args.index c.spot_at-spot.result.at c.spot_at-spot.result.rest) c.deref.ensures.value c.spot_at-spot.ensures in
    let here = taken {I = g.row.I.Denot} _ _ _ _ spot c.index_mut.result.now c.take_at-item.new.self c.index_mut.ensures.value c.take_at-item.ensures.gone in
    let start = subst (λ n. Taken {I = g.row.I.Denot} (leaves_of n) (leaves_of_parts {I = g.row.I.Denot} (slice_set c.in-Parts.parts.items c.spot_at-spot.result.at c.take_at-item.new.self)) c.args.index) (sym c.in-Parts.is) here in
    taken_then {I = g.row.I.Denot} _ _ _ c.args.index start c.drop_empty.ensures.kept

pub editing::take_from_node-spot_at-spot-requires : goal.editing::take_from_node-spot_at-spot-requires
editing::take_from_node-spot_at-spot-requires g t c =
    let way = subst (λ n. 1 < room_at {I = g.row.I.Denot} (leaves_of n) c.args.index) c.in-Parts.is c.requires in
    let near = there {I = g.row.I.Denot} (leaves_of_parts {I = g.row.I.Denot} c.in-Parts.parts.items) c.args.index (omega (arith, way)) in
    let same = ap (λ ks. length (items {I = g.row.I.Denot} (leaves_of_parts {I = g.row.I.Denot} ks))) c.deref.ensures.value in
    omega (arith, near, same)

pub editing::take_from_node-overflow_sub-reserved : goal.editing::take_from_node-overflow_sub-reserved
editing::take_from_node-overflow_sub-reserved g t c =
    let way = subst (λ n. 1 < room_at {I = g.row.I.Denot} (leaves_of n) c.args.index) c.in-Items.is c.requires in
    let le = room-leaf {I = g.row.I.Denot} c.in-Items.items.items (min c.in-Items.reserved (vec_capacity c.in-Items.items - vec_len c.in-Items.items) + 1) c.args.index in
    omega (arith, way, le)

pub seq::Seq::take_at-invariant_of-self : goal.seq::Seq::take_at-invariant_of-self
seq::Seq::take_at-invariant_of-self g t c =
    let near = edited_in {I = g.row.I.Denot} _ _ _ _ _ c.take_from_node-item.ensures.gone.edited in
    let n = ap length (c.take_from_node-item.ensures.gone.kept.items ∙ items_take {I = g.row.I.Denot} _ _ _ c.take_from_node-item.ensures.gone.edited) in
    let less = length-remove (items {I = g.row.I.Denot} (leaves_of c.deref_mut-node.result.now)) c.args.index near in
    let own = ap (λ n. length (items (leaves_of n))) c.deref_mut-node.ensures.value ∙ sym (ap (λ l. length (items (leaves_of_link l))) c.in-Own.is) in
    let high = ap (λ n. rank_of n) c.deref_mut-node.ensures.value ∙ sym (ap (λ l. rank_of_link l) c.in-Own.is) in
    let level = subst (IsLevel {I = g.row.I.Denot} {M = g.row.I-Measure.Denot}) (sym c.deref_mut-node.ensures.value) (subst (IsLevelLink {I = g.row.I.Denot} {M = g.row.I-Measure.Denot}) c.in-Own.is c.self.invariant.level) in
    record {
      counted = omega (arith, n, less, own, c.self.invariant.counted);
      ranked = c.rank_in-self-inside.ensures;
      few = let low = (c.take_from_node-item.ensures.level level).low in omega (arith, low, high, c.rank_in-self-inside.ensures, c.self.invariant.ranked, c.self.invariant.few);
      measured = c.measure_in-self-inside.ensures;
      level = (c.take_from_node-item.ensures.level level).level;
    }

pub seq::Seq::take_at-returns-clause-stays : goal.seq::Seq::take_at-returns-clause-stays
seq::Seq::take_at-returns-clause-stays g t c =
    let high = ap (λ n. rank_of n) c.deref_mut-node.ensures.value ∙ sym (ap (λ l. rank_of_link l) c.in-Own.is) ∙ ap (λ v. v.1) c.self.view_is in
    let level = subst (IsLevel {I = g.row.I.Denot} {M = g.row.I-Measure.Denot}) (sym c.deref_mut-node.ensures.value) (subst (IsLevelLink {I = g.row.I.Denot} {M = g.row.I-Measure.Denot}) c.in-Own.is c.self.invariant.level) in
    record { rank = λ n. (c.take_from_node-item.ensures.level level).stays n ∙ high }

pub editing::take_from_node-returns-in-Parts-clause-level : goal.editing::take_from_node-returns-in-Parts-clause-level
editing::take_from_node-returns-in-Parts-clause-level g t c = λ h.
    let spot : IsSpot {I = g.row.I.Denot} c.in-Parts.parts.items c.args.index c.spot_at-spot.result.at c.spot_at-spot.result.rest
    = subst (λ ks. IsSpot {I = g.row.I.Denot} ks c.args.index c.spot_at-spot.result.at c.spot_at-spot.result.rest) c.deref.ensures.value c.spot_at-spot.ensures in
    let old : AreLevel {I = g.row.I.Denot} c.in-Parts.parts.items = subst (IsLevel {I = g.row.I.Denot} {M = g.row.I-Measure.Denot}) c.in-Parts.is h in
    let near = at_in {I = g.row.I.Denot} _ _ _ _ spot in
    let mine = part_at {I = g.row.I.Denot} _ _ c.in-Parts.parts.items c.index_mut.result.now old near c.index_mut.ensures.value in
    let one = one_set {I = g.row.I.Denot} (rank_above {I = g.row.I.Denot} c.in-Parts.parts.items - 1) c.spot_at-spot.result.at c.in-Parts.parts.items c.take_at-item.new.self old (λ n. c.take_at-item.ensures.stays.rank n ∙ mine.rank_is) in
    let all = lowered {I = g.row.I.Denot} (rank_above {I = g.row.I.Denot} c.in-Parts.parts.items - 1) c.in-Parts.parts.items c.drop_empty.new.parts.items old (omega (arith, near)) (c.drop_empty.ensures.level (rank_above {I = g.row.I.Denot} c.in-Parts.parts.items - 1) one) in
    let rank = ap (λ n. rank_of n) c.in-Parts.is in
    record { level = all.0; low = omega (arith, all.1.0, rank); stays = λ n. all.1.1 n ∙ sym rank }

pub editing::take_from_node-index_mut-requires : goal.editing::take_from_node-index_mut-requires
editing::take_from_node-index_mut-requires g t c =
    let spot : IsSpot {I = g.row.I.Denot} c.in-Parts.parts.items c.args.index c.spot_at-spot.result.at c.spot_at-spot.result.rest
    = subst (λ ks. IsSpot {I = g.row.I.Denot} ks c.args.index c.spot_at-spot.result.at c.spot_at-spot.result.rest) c.deref.ensures.value c.spot_at-spot.ensures in
    let near = at_in {I = g.row.I.Denot} _ _ _ _ spot in
    omega (arith, near, c.in-Parts.parts.ok)

pub editing::take_from_node-drop_empty-requires : goal.editing::take_from_node-drop_empty-requires
editing::take_from_node-drop_empty-requires g t c =
    let spot : IsSpot {I = g.row.I.Denot} c.in-Parts.parts.items c.args.index c.spot_at-spot.result.at c.spot_at-spot.result.rest
    = subst (λ ks. IsSpot {I = g.row.I.Denot} ks c.args.index c.spot_at-spot.result.at c.spot_at-spot.result.rest) c.deref.ensures.value c.spot_at-spot.ensures in
    let near = at_in {I = g.row.I.Denot} _ _ _ _ spot in
    omega (arith, near, c.in-Parts.parts.ok)
