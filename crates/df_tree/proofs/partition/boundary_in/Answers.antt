use Rattle.std.proofs.Common.{◌≡◌, ◌+◌, length, take, ap, ◌∙◌, arith}
use Rattle.df_tree.specs.Leaves.{leaves_of_parts, items}
use Rattle.df_tree.specs.Laws.{total}
use Rattle.df_tree.proofs.FoundLemmas.{fits_front}
use Rattle.df_tree.proofs.PartitionLemmas.{all_further, boundary_end, none_further, partitioned_part}
use Rattle.df_tree.proofs.SpotLemmas.{more as more_items}
use Rattle.df_tree.proofs.Sums.{more as more_sum}
use Rattle.df_tree.proofs.partition.boundary_in.Goals as goal

pub holds_for_all-requires : goal.holds_for_all-requires
holds_for_all-requires g c = partitioned_part {I = g.row.I.Denot} (g.P.Predicate.holds c.args.predicate.now) c.args.parts.now c.loop-at.at c.index-parts-at.result c.requires.partitioned c.loop-at-test.true c.index-parts-at.is

pub returns-then-not-holds_for_all : goal.returns-then-not-holds_for_all
returns-then-not-holds_for_all g c = record {
  within = omega (arith, c.loop-at-test.true);
  skipped_is = c.loop-at.invariant.skipped_is;
  sum_is = c.loop-at.invariant.sum_is;
  before = c.loop-at.invariant.before;
  behind = none_further {I = g.row.I.Denot} (g.P.Predicate.holds c.args.predicate.now) c.args.parts.now c.loop-at.at c.index-parts-at.result c.requires.partitioned c.loop-at-test.true c.index-parts-at.is (c.holds_for_all.ensures.none_behind c.if-not-holds_for_all.true);
}

pub overflow_add-skipped : goal.overflow_add-skipped
overflow_add-skipped g c =
    let count : c.part.inside.count ≡ length (items {I = g.row.I.Denot} c.index-parts-at.result.0) = c.part.invariant.counted ∙ ap (λ v. length (items {I = g.row.I.Denot} v.0)) c.part.view_is in
    let next : c.loop-at.skipped + c.part.inside.count ≡ length (items {I = g.row.I.Denot} (leaves_of_parts {I = g.row.I.Denot} (take (c.loop-at.at + 1) c.args.parts.now)))
    = more_items {I = g.row.I.Denot} c.args.parts.now c.loop-at.at c.loop-at.skipped _ c.index-parts-at.result c.loop-at.invariant.skipped_is c.loop-at-test.true c.index-parts-at.is (ap (λ n. c.loop-at.skipped + n) count) in
    let most = fits_front {I = g.row.I.Denot} c.args.parts.now (c.loop-at.at + 1) in
    omega (arith, next, most, c.requires.fits)

pub loop-at-preserved : goal.loop-at-preserved
loop-at-preserved g c =
    let count : c.part.inside.count ≡ length (items {I = g.row.I.Denot} c.index-parts-at.result.0) = c.part.invariant.counted ∙ ap (λ v. length (items {I = g.row.I.Denot} v.0)) c.part.view_is in
    record {
      before = all_further {I = g.row.I.Denot} (g.P.Predicate.holds c.args.predicate.now) c.args.parts.now c.loop-at.at c.index-parts-at.result c.requires.partitioned c.loop-at-test.true c.index-parts-at.is c.loop-at.invariant.before (c.holds_for_all.ensures.all c.if-not-holds_for_all.false);
      skipped_is = more_items {I = g.row.I.Denot} c.args.parts.now c.loop-at.at c.loop-at.skipped _ c.index-parts-at.result c.loop-at.invariant.skipped_is c.loop-at-test.true c.index-parts-at.is (ap (λ n. c.loop-at.skipped + n) count);
      sum_is = more_sum g.I.Measure.Monoid.none g.I.Measure.Monoid.plus g.I.Item.measure g.met.I.Measure.Monoid.laws c.args.parts.now c.loop-at.at c.loop-at.sum _ _ c.index-parts-at.result c.loop-at.invariant.sum_is c.loop-at-test.true c.index-parts-at.is (c.part.invariant.measured ∙ ap (λ v. total g.I.Measure.Monoid.none g.I.Measure.Monoid.plus g.I.Item.measure (items v.0)) c.part.view_is) c.plus-sum.ensures;
    }

pub returns : goal.returns
returns g c =
    boundary_end g.I.Measure.Monoid.none g.I.Measure.Monoid.plus g.I.Item.measure (g.P.Predicate.holds c.args.predicate.now) c.args.parts.now c.loop-at.at c.loop-at.skipped c.loop-at.sum (omega (arith, c.loop-at-test.false, c.loop-at.auto.at-end))
    c.loop-at.invariant.skipped_is c.loop-at.invariant.sum_is c.loop-at.invariant.before
