use Rattle.df_tree.proofs.LevelLemmas.{level_alike}
use Rattle.df_tree.specs.Level.{IsLevel}
use Rattle.std.proofs.Common.{rules, ◌+◌, ap, sym, ◌∙◌, subst, arith}
use Rattle.std.specs.Prelude.{map}
use denote.Param.Weighed.{at_most}
use Rattle.df_tree.specs.Leaves.{alike, alike_node}
use Rattle.df_tree.proofs.LeafLemmas.{alike_whole, items-one, take_past}
use Rattle.df_tree.proofs.+copied.Goals as goal

pub copying::copied_node-returns-in_ok-copied_parts-in-Parts-clause-alike : goal.copying::copied_node-returns-in_ok-copied_parts-in-Parts-clause-alike
copying::copied_node-returns-in_ok-copied_parts-in-Parts-clause-alike g t c =
    alike_whole {I = g.row.I.Denot} _ _ (c.in_ok-copied_parts-in-Parts.ensures ∙ ap (map alike) c.deref-in-Parts.ensures.value) ∙ ap (alike_node {I = g.row.I.Denot} {M = g.row.I-Measure.Denot}) (sym c.in-Parts.is)

pub copying::copied_node-returns-in_ok-copied_parts-in-Parts-clause-level : goal.copying::copied_node-returns-in_ok-copied_parts-in-Parts-clause-level
copying::copied_node-returns-in_ok-copied_parts-in-Parts-clause-level g t c =
    level_alike {I = g.row.I.Denot} _ _ (c.in_ok-copied_parts-in-Parts.ensures ∙ ap (map alike) c.deref-in-Parts.ensures.value) (subst (IsLevel {I = g.row.I.Denot} {M = g.row.I-Measure.Denot}) c.in-Parts.is c.requires)

pub copying::copied_node-returns-in_ok-items_again-in-Items-clause-alike : goal.copying::copied_node-returns-in_ok-items_again-in-Items-clause-alike
copying::copied_node-returns-in_ok-items_again-in-Items-clause-alike g t c =
    ap (λ l. (l, 0)) (items-one {I = g.row.I.Denot} c.in_ok-items_again-in-Items.field-0.items 0 ∙ c.in_ok-items_again-in-Items.ensures ∙ c.deref.ensures.value ∙ sym (items-one {I = g.row.I.Denot} c.in-Items.items.items 0)) ∙ ap (alike_node {I = g.row.I.Denot} {M = g.row.I-Measure.Denot}) (sym c.in-Items.is)

pub copying::copied_parts-returns : goal.copying::copied_parts-returns
copying::copied_parts-returns g t c = c.loop-part.invariant ∙ ap (map (alike {I = g.row.I.Denot})) (take_past _ _ c.loop-part-test.false)

pub copying::copied_parts-copied-requires : goal.copying::copied_parts-copied-requires
copying::copied_parts-copied-requires g t c κs inside =
    let most = at_most (λ k. k.1 + 1) c.args.parts.now c.loop-part.part-index c.part-item.result c.loop-part-test.true in
    let here = ap (λ k. k.1 + 1) c.part-item.is in
    (omega (arith, most, here, c.decreases), search rules)
