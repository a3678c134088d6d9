use Rattle.std.proofs.Common.{◌≡◌, ◌+◌, length, take, ap, sym, ◌∙◌, arith}
use Rattle.df_tree.specs.Leaves.{leaves_of_parts, items}
use Rattle.df_tree.specs.Laws.{total}
use Rattle.df_tree.proofs.FoundLemmas.{fits_front, part_more, reached}
use Rattle.df_tree.proofs.SpotLemmas.{more}
use Rattle.df_tree.proofs.finding.reach_in.Goals as goal

pub returns-then-passes : goal.returns-then-passes
returns-then-passes g c =
    reached g.I.Measure.Monoid.none g.I.Measure.Monoid.plus g.I.Item.measure g.met.I.Measure.Monoid.laws (g.T.Test.passes c.args.test.now) c.args.parts.now c.loop-at.at c.loop-at.skipped c.args.before c.loop-at.sum c.plus-next.result _ c.index-parts-at.result
    c.loop-at.invariant.skipped_is c.loop-at.invariant.sum_is c.loop-at.invariant.not_yet c.loop-at-test.true c.index-parts-at.is (c.part.invariant.measured ∙ ap (λ v. total g.I.Measure.Monoid.none g.I.Measure.Monoid.plus g.I.Item.measure (items v.0)) c.part.view_is) c.plus-next.ensures (sym c.passes.ensures ∙ c.if-passes.true)

pub overflow_add-skipped : goal.overflow_add-skipped
overflow_add-skipped g c =
    let count : c.part.inside.count ≡ length (items {I = g.row.I.Denot} c.index-parts-at.result.0) = c.part.invariant.counted ∙ ap (λ v. length (items {I = g.row.I.Denot} v.0)) c.part.view_is in
    let next : c.loop-at.skipped + c.part.inside.count ≡ length (items {I = g.row.I.Denot} (leaves_of_parts {I = g.row.I.Denot} (take (c.loop-at.at + 1) c.args.parts.now)))
    = more {I = g.row.I.Denot} c.args.parts.now c.loop-at.at c.loop-at.skipped _ c.index-parts-at.result c.loop-at.invariant.skipped_is c.loop-at-test.true c.index-parts-at.is (ap (λ n. c.loop-at.skipped + n) count) in
    let most = fits_front {I = g.row.I.Denot} c.args.parts.now (c.loop-at.at + 1) in
    omega (arith, next, most, c.requires.fits)

pub loop-at-preserved : goal.loop-at-preserved
loop-at-preserved g c =
    let count : c.part.inside.count ≡ length (items {I = g.row.I.Denot} c.index-parts-at.result.0) = c.part.invariant.counted ∙ ap (λ v. length (items {I = g.row.I.Denot} v.0)) c.part.view_is in
    record {
      skipped_is = more {I = g.row.I.Denot} c.args.parts.now c.loop-at.at c.loop-at.skipped _ c.index-parts-at.result c.loop-at.invariant.skipped_is c.loop-at-test.true c.index-parts-at.is (ap (λ n. c.loop-at.skipped + n) count);
      sum_is = part_more g.I.Measure.Monoid.none g.I.Measure.Monoid.plus g.I.Item.measure g.met.I.Measure.Monoid.laws c.args.parts.now c.loop-at.at c.args.before c.loop-at.sum c.plus-next.result _ c.index-parts-at.result c.loop-at.invariant.sum_is c.loop-at-test.true c.index-parts-at.is (c.part.invariant.measured ∙ ap (λ v. total g.I.Measure.Monoid.none g.I.Measure.Monoid.plus g.I.Item.measure (items v.0)) c.part.view_is) c.plus-next.ensures;
      not_yet = sym c.passes.ensures ∙ c.if-passes.false;
    }
