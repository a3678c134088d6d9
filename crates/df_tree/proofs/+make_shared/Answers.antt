use Rattle.std.proofs.Common.{rules, ◌≡◌, ◌+◌, ◌<◌, map, length, ap, sym, ◌∙◌, subst, arith}
use Rattle.std.proofs.Math.Seq.{map-set_same}
use Rattle.std.proofs.lemmas.List.{length-map}
use denote.Param.Weighed.{at_most}
use Rattle.df_tree.proofs.LevelLemmas.{level_alike}
use Rattle.df_tree.proofs.LeafLemmas.{alike_whole, items-shared, room-shared}
use Rattle.df_tree.specs.Laws.{total}
use Rattle.df_tree.specs.Level.{IsLevel, IsLevelLink}
use Rattle.df_tree.specs.Leaves.{alike, alike_node, items, leaves_of, leaves_of_link, rank_above, rank_of, rank_of_link, room_at}
use Rattle.df_tree.proofs.+make_shared.Goals as goal

pub seq::Seq::make_shared-invariant_of-self-in-Own : goal.seq::Seq::make_shared-invariant_of-self-in-Own
seq::Seq::make_shared-invariant_of-self-in-Own g t c =
    let n = c.in_ok-shared-in-Own.shared.value in
    let same : alike_node {I = g.row.I.Denot} {M = g.row.I-Measure.Denot} n ≡ alike {I = g.row.I.Denot} (leaves_of_link c.self.inside.link, rank_of_link c.self.inside.link)
    = ap (alike_node {I = g.row.I.Denot} {M = g.row.I-Measure.Denot}) c.in_ok-shared-in-Own.ensures ∙ c.share_below.ensures.alike ∙ ap (alike_node {I = g.row.I.Denot} {M = g.row.I-Measure.Denot}) c.deref_mut-node.ensures.value
    ∙ sym (ap (λ l. alike {I = g.row.I.Denot} (leaves_of_link l, rank_of_link l)) c.in-Own.is) in
    let here : items {I = g.row.I.Denot} (map (λ r. (r.0, 0)) (leaves_of n)) ≡ items {I = g.row.I.Denot} (leaves_of_link c.self.inside.link) = items-shared {I = g.row.I.Denot} (leaves_of n) ∙ ap (λ p. p.0) same in
    record {
      counted = c.self.invariant.counted ∙ ap length (sym here);
      ranked = c.self.invariant.ranked ∙ ap (λ p. p.1) (sym same);
      few = c.self.invariant.few;
      measured = c.self.invariant.measured ∙ ap (total g.I.Measure.Monoid.none g.I.Measure.Monoid.plus g.I.Item.measure) (sym here);
      level = subst (IsLevel {I = g.row.I.Denot} {M = g.row.I-Measure.Denot}) (sym c.in_ok-shared-in-Own.ensures) (c.share_below.ensures.level
          (subst (IsLevel {I = g.row.I.Denot} {M = g.row.I-Measure.Denot}) (sym c.deref_mut-node.ensures.value) (subst (IsLevelLink {I = g.row.I.Denot} {M = g.row.I-Measure.Denot}) c.in-Own.is c.self.invariant.level)));
    }

pub seq::Seq::make_shared-returns-in_ok-shared-in-Own-clause-alike : goal.seq::Seq::make_shared-returns-in_ok-shared-in-Own-clause-alike
seq::Seq::make_shared-returns-in_ok-shared-in-Own-clause-alike g t c =
    let n = c.in_ok-shared-in-Own.shared.value in
    let same : alike_node {I = g.row.I.Denot} {M = g.row.I-Measure.Denot} n ≡ alike {I = g.row.I.Denot} (leaves_of_link c.self.inside.link, rank_of_link c.self.inside.link)
    = ap (alike_node {I = g.row.I.Denot} {M = g.row.I-Measure.Denot}) c.in_ok-shared-in-Own.ensures ∙ c.share_below.ensures.alike ∙ ap (alike_node {I = g.row.I.Denot} {M = g.row.I-Measure.Denot}) c.deref_mut-node.ensures.value
    ∙ sym (ap (λ l. alike {I = g.row.I.Denot} (leaves_of_link l, rank_of_link l)) c.in-Own.is) in
    let here : items {I = g.row.I.Denot} (map (λ r. (r.0, 0)) (leaves_of n)) ≡ items {I = g.row.I.Denot} (leaves_of_link c.self.inside.link) = items-shared {I = g.row.I.Denot} (leaves_of n) ∙ ap (λ p. p.0) same in
    ap (λ l. (l, rank_of n)) here ∙ ap (λ k. (items {I = g.row.I.Denot} (leaves_of_link c.self.inside.link), k)) (ap (λ p. p.1) same) ∙ ap (alike {I = g.row.I.Denot}) c.self.view_is

pub seq::Seq::make_shared-returns-in_ok-shared-in-Own-clause-shared : goal.seq::Seq::make_shared-returns-in_ok-shared-in-Own-clause-shared
seq::Seq::make_shared-returns-in_ok-shared-in-Own-clause-shared g t c index =
    let none = room-shared {I = g.row.I.Denot} (leaves_of c.in_ok-shared-in-Own.shared.value) index in
    omega (arith, none)

pub seq::Seq::make_shared-returns-in-Shared-clause-shared : goal.seq::Seq::make_shared-returns-in-Shared-clause-shared
seq::Seq::make_shared-returns-in-Shared-clause-shared g t c index =
    let none = room-shared {I = g.row.I.Denot} (leaves_of c.in-Shared.field-0.value) index in
    let same = ap (λ l. room_at {I = g.row.I.Denot} (leaves_of_link l) index) c.in-Shared.is in
    omega (arith, none, same)

pub sharing::share_below-returns-in-Parts-clause-alike : goal.sharing::share_below-returns-in-Parts-clause-alike
sharing::share_below-returns-in-Parts-clause-alike g t c =
    alike_whole {I = g.row.I.Denot} _ _ c.share_parts.ensures ∙ ap (alike_node {I = g.row.I.Denot} {M = g.row.I-Measure.Denot}) (sym c.in-Parts.is)

pub sharing::share_below-returns-in-Parts-clause-level : goal.sharing::share_below-returns-in-Parts-clause-level
sharing::share_below-returns-in-Parts-clause-level g t c = λ h.
    level_alike {I = g.row.I.Denot} _ _ c.share_parts.ensures (subst (IsLevel {I = g.row.I.Denot} {M = g.row.I-Measure.Denot}) c.in-Parts.is h)

pub sharing::share_parts-returns-in_err-make_shared : goal.sharing::share_parts-returns-in_err-make_shared
sharing::share_parts-returns-in_err-make_shared g t c =
    map-set_same (alike {I = g.row.I.Denot}) c.loop-at.parts.items c.loop-at.at c.make_shared.new.self c.index_mut.result.now (c.make_shared.ensures.alike ∙ ap (alike {I = g.row.I.Denot}) c.index_mut.ensures.value) ∙ c.loop-at.invariant

pub sharing::share_parts-loop-at-preserved : goal.sharing::share_parts-loop-at-preserved
sharing::share_parts-loop-at-preserved g t c =
    map-set_same (alike {I = g.row.I.Denot}) c.loop-at.parts.items c.loop-at.at c.make_shared.new.self c.index_mut.result.now (c.make_shared.ensures.alike ∙ ap (alike {I = g.row.I.Denot}) c.index_mut.ensures.value) ∙ c.loop-at.invariant

pub sharing::share_parts-make_shared-requires : goal.sharing::share_parts-make_shared-requires
sharing::share_parts-make_shared-requires g t c κs inside =
    let many = ap length c.loop-at.invariant in
    let now = length-map c.loop-at.parts.items (alike {I = g.row.I.Denot}) in
    let old = length-map c.args.parts.now.items (alike {I = g.row.I.Denot}) in
    let near : c.loop-at.at < length c.loop-at.parts.items = omega (arith, many, now, old, c.loop-at-test.true, c.len-count.ensures, c.args.parts.now.ok, c.loop-at.parts.ok) in
    let most = at_most (λ k. k.1 + 1) c.loop-at.parts.items c.loop-at.at c.index_mut.result.now near in
    let here = ap (λ k. k.1 + 1) c.index_mut.ensures.value in
    let same : rank_above {I = g.row.I.Denot} c.loop-at.parts.items ≡ rank_above {I = g.row.I.Denot} c.args.parts.now.items = ap (λ p. p.1) (alike_whole {I = g.row.I.Denot} _ _ c.loop-at.invariant) in
    (omega (arith, most, here, same, c.decreases), search rules)
