use Rattle.df_tree.specs.declared.seq.Seq.TheDeep.{deep-Node}
use Rattle.df_tree.proofs.LevelLemmas.{rank_set, level_set}
use Rattle.df_tree.specs.Level.{IsLevel}
use Rattle.std.proofs.Common.{rules, ◌<◌, ◌≤◌, ◌+◌, ◌-◌, ℕ, [], ◌∷◌, length, ap, sym, ◌∙◌, arith, subst}
use Rattle.std.specs.Prelude.{min, vec_len, vec_capacity}
use Rattle.df_tree.specs.Leaves.{items, leaves_of, leaves_of_parts, Kept, Reserved, rank_of}
use Rattle.df_tree.specs.Spots.{IsSpot}
use Rattle.df_tree.proofs.LeafLemmas.{items-one}
use Rattle.df_tree.proofs.PlanLemmas.{kept_trans, reserved_after, reserved_leaf}
use Rattle.df_tree.proofs.SpotLemmas.{kept, reserved, at_in, lower, within}
use Rattle.df_tree.proofs.Outcomes.{if_ok_then}
use Rattle.df_tree.proofs.+reserve_below.Goals as goal

pub reserving::reserve_in_node-returns-in_ok-halve_at-in-Parts-clause-kept : goal.reserving::reserve_in_node-returns-in_ok-halve_at-in-Parts-clause-kept
reserving::reserve_in_node-returns-in_ok-halve_at-in-Parts-clause-kept g t c =
    let spot : IsSpot {I = g.row.I.Denot} c.halve_at.new.parts.items c.args.index c.spot_at-spot.result.at c.spot_at-spot.result.rest
    = subst (λ ks. IsSpot {I = g.row.I.Denot} ks c.args.index c.spot_at-spot.result.at c.spot_at-spot.result.rest) c.deref-in-Parts.ensures.value c.spot_at-spot.ensures in
    let first = subst (λ n. Kept {I = g.row.I.Denot} (leaves_of n) (leaves_of_parts {I = g.row.I.Denot} c.halve_at.new.parts.items)) (sym c.in-Parts.is) c.halve_at.ensures.kept in
    kept_trans {I = g.row.I.Denot} _ _ _ first (kept {I = g.row.I.Denot} _ _ _ _ spot c.index_mut.result.now c.reserve_below.new.self c.index_mut.ensures.value c.reserve_below.ensures.kept)

pub reserving::reserve_in_node-returns-in_ok-halve_at-in-Parts-clause-reserved : goal.reserving::reserve_in_node-returns-in_ok-halve_at-in-Parts-clause-reserved
reserving::reserve_in_node-returns-in_ok-halve_at-in-Parts-clause-reserved g t c =
    let spot : IsSpot {I = g.row.I.Denot} c.halve_at.new.parts.items c.args.index c.spot_at-spot.result.at c.spot_at-spot.result.rest
    = subst (λ ks. IsSpot {I = g.row.I.Denot} ks c.args.index c.spot_at-spot.result.at c.spot_at-spot.result.rest) c.deref-in-Parts.ensures.value c.spot_at-spot.ensures in
    let first = subst (λ n. Kept {I = g.row.I.Denot} (leaves_of n) (leaves_of_parts {I = g.row.I.Denot} c.halve_at.new.parts.items)) (sym c.in-Parts.is) c.halve_at.ensures.kept in
    if_ok_then c.reserve_below.result c.reserve_below.ensures.reserved
    (λ _ h. reserved_after {I = g.row.I.Denot} _ _ _ c.args.index first (reserved {I = g.row.I.Denot} _ _ _ _ spot c.index_mut.result.now c.reserve_below.new.self c.index_mut.ensures.value c.reserve_below.ensures.kept.items h))

pub reserving::reserve_in_node-returns-in_ok-reserve-in-Items-clause-reserved : goal.reserving::reserve_in_node-returns-in_ok-reserve-in-Items-clause-reserved
reserving::reserve_in_node-returns-in_ok-reserve-in-Items-clause-reserved g t c =
    let near = subst (λ n. c.args.index < length (items {I = g.row.I.Denot} (leaves_of n))) c.in-Items.is c.requires in
    let many = ap length (items-one {I = g.row.I.Denot} c.in-Items.items.items 0) in
    let s : ℕ = min c.in-Items.reserved (vec_capacity c.in-Items.items - vec_len c.in-Items.items) + 1 in
    let t : ℕ = min c.in-Some.wanted (vec_capacity c.reserve.new.self - vec_len c.reserve.new.self) + 1 in
    let more : s + 1 ≤ t = omega (arith, c.in_ok-reserve-in-Items.ensures.ok, c.in_ok-reserve-in-Items.ensures.len, c.in-Some.ensures, c.in-Items.items.ok) in
    subst (λ n. Reserved {I = g.row.I.Denot} (leaves_of n) ((c.reserve.new.self.items, t) ∷ []) c.args.index) (sym c.in-Items.is)
    (reserved_leaf {I = g.row.I.Denot} c.in-Items.items.items c.reserve.new.self.items s t c.args.index c.in_ok-reserve-in-Items.ensures.items (omega (arith, near, many)) more (omega arith))

pub reserving::reserve_in_node-returns-in_ok-halve_at-in-Parts-clause-rank : goal.reserving::reserve_in_node-returns-in_ok-halve_at-in-Parts-clause-rank
reserving::reserve_in_node-returns-in_ok-halve_at-in-Parts-clause-rank g t c =
    rank_set {I = g.row.I.Denot} _ _ c.index_mut.result.now c.reserve_below.new.self c.index_mut.ensures.value c.reserve_below.ensures.rank ∙ c.halve_at.ensures.rank ∙ ap (λ n. rank_of n) (sym c.in-Parts.is)

pub reserving::reserve_in_node-returns-in_ok-halve_at-in-Parts-clause-level : goal.reserving::reserve_in_node-returns-in_ok-halve_at-in-Parts-clause-level
reserving::reserve_in_node-returns-in_ok-halve_at-in-Parts-clause-level g t c = λ h.
    let spot : IsSpot {I = g.row.I.Denot} c.halve_at.new.parts.items c.args.index c.spot_at-spot.result.at c.spot_at-spot.result.rest
    = subst (λ ks. IsSpot {I = g.row.I.Denot} ks c.args.index c.spot_at-spot.result.at c.spot_at-spot.result.rest) c.deref-in-Parts.ensures.value c.spot_at-spot.ensures in
    level_set {I = g.row.I.Denot} _ _ c.index_mut.result.now c.reserve_below.new.self (at_in {I = g.row.I.Denot} _ _ _ _ spot) c.index_mut.ensures.value c.reserve_below.ensures.rank
    (λ n. let m = ap length c.reserve_below.ensures.kept.items in omega (arith, m, n))
    (c.halve_at.ensures.level (subst (IsLevel {I = g.row.I.Denot} {M = g.row.I-Measure.Denot}) c.in-Parts.is h))

pub reserving::reserve_in_node-spot_at-full-requires : goal.reserving::reserve_in_node-spot_at-full-requires
reserving::reserve_in_node-spot_at-full-requires g t c =
    let near = subst (λ n. c.args.index < length (items {I = g.row.I.Denot} (leaves_of n))) c.in-Parts.is c.requires in
    let same = ap (λ ks. length (items {I = g.row.I.Denot} (leaves_of_parts {I = g.row.I.Denot} ks))) c.deref.ensures.value in
    omega (arith, near, same)

pub reserving::reserve_in_node-spot_at-spot-requires : goal.reserving::reserve_in_node-spot_at-spot-requires
reserving::reserve_in_node-spot_at-spot-requires g t c =
    let near = subst (λ n. c.args.index < length (items {I = g.row.I.Denot} (leaves_of n))) c.in-Parts.is c.requires in
    let kept = ap length c.halve_at.ensures.kept.items in
    let same = ap (λ ks. length (items {I = g.row.I.Denot} (leaves_of_parts {I = g.row.I.Denot} ks))) c.deref-in-Parts.ensures.value in
    omega (arith, near, kept, same)

pub reserving::reserve_in_node-halve_at-requires : goal.reserving::reserve_in_node-halve_at-requires
reserving::reserve_in_node-halve_at-requires g t c =
    let spot : IsSpot {I = g.row.I.Denot} c.in-Parts.parts.items c.args.index c.spot_at-full.result.at c.spot_at-full.result.rest
    = subst (λ ks. IsSpot {I = g.row.I.Denot} ks c.args.index c.spot_at-full.result.at c.spot_at-full.result.rest) c.deref.ensures.value c.spot_at-full.ensures in
    let near = at_in {I = g.row.I.Denot} _ _ _ _ spot in
    omega (arith, near, c.in-Parts.parts.ok)

pub reserving::reserve_in_node-index_mut-requires : goal.reserving::reserve_in_node-index_mut-requires
reserving::reserve_in_node-index_mut-requires g t c =
    let spot : IsSpot {I = g.row.I.Denot} c.halve_at.new.parts.items c.args.index c.spot_at-spot.result.at c.spot_at-spot.result.rest
    = subst (λ ks. IsSpot {I = g.row.I.Denot} ks c.args.index c.spot_at-spot.result.at c.spot_at-spot.result.rest) c.deref-in-Parts.ensures.value c.spot_at-spot.ensures in
    let near = at_in {I = g.row.I.Denot} _ _ _ _ spot in
    omega (arith, near, c.halve_at.new.parts.ok)

pub reserving::reserve_in_node-reserve_below-requires : goal.reserving::reserve_in_node-reserve_below-requires
reserving::reserve_in_node-reserve_below-requires g t c κs inside =
    let spot : IsSpot {I = g.row.I.Denot} c.halve_at.new.parts.items c.args.index c.spot_at-spot.result.at c.spot_at-spot.result.rest
    = subst (λ ks. IsSpot {I = g.row.I.Denot} ks c.args.index c.spot_at-spot.result.at c.spot_at-spot.result.rest) c.deref-in-Parts.ensures.value c.spot_at-spot.ensures in
    let below = lower {I = g.row.I.Denot} _ _ _ _ spot _ c.index_mut.ensures.value in
    let high = ap (λ n. deep-Node g.row.I.Denot g.row.I-Measure.Denot g.I.Item g.I.Measure.Monoid n) c.in-Parts.is in
    (omega (arith, below, high, c.halve_at.ensures.rank, c.decreases), (search rules, (search rules, within {I = g.row.I.Denot} _ _ _ _ spot _ c.index_mut.ensures.value)))
