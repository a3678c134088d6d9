use Rattle.std.proofs.Common.{◌≡◌, ◌++◌, ◌∷◌, [], append-nil, length, length-append, ap, refl, sym, ◌∙◌, subst, arith}
use Rattle.df_tree.specs.Laws.{total}
use Rattle.df_tree.specs.Level.{AreLevel}
use Rattle.df_tree.specs.Leaves.{items, items_of_parts, leaves_of_parts, rank_above}
use Rattle.df_tree.proofs.JoinLemmas.{items-two}
use Rattle.df_tree.proofs.LeafLemmas.{items-append}
use Rattle.df_tree.proofs.LevelLemmas.{two_level}
use Rattle.df_tree.proofs.PlanLemmas.{kept_eq}
use Rattle.df_tree.proofs.Sums.{total-append}
use Rattle.df_tree.proofs.reserving.Room.put_over.Goals as goal

pub overflow_add-count : goal.overflow_add-count
overflow_add-count g c =
    let k = c.args.seq.now in
    let l = c.args.second in
    let here = ap (λ v. length (items {I = g.row.I.Denot} v.0)) c.seq.view_is in
    let there = ap (λ v. length (items {I = g.row.I.Denot} v.0)) c.second.view_is in
    let both = ap length (items-append {I = g.row.I.Denot} k.0 l.0) in
    let sum = length-append (items {I = g.row.I.Denot} k.0) (items {I = g.row.I.Denot} l.0) in
    omega (arith, here, there, both, sum, c.seq.invariant.counted, c.second.invariant.counted, c.requires.fits)

pub invariant_of-seq : goal.invariant_of-seq
invariant_of-seq g c =
    let k = c.args.seq.now in
    let l = c.args.second in
    let here = ap (λ v. items {I = g.row.I.Denot} v.0) c.seq.view_is in
    let there = ap (λ v. items {I = g.row.I.Denot} v.0) c.second.view_is in
    let two : c.put_two.new.parts.items ≡ k ∷ l ∷ [] = c.put_two.ensures ∙ ap (λ p. p ∷ l ∷ []) c.replace-first.ensures.value in
    let held : items_of_parts {I = g.row.I.Denot} c.put_two.new.parts.items ≡ items {I = g.row.I.Denot} k.0 ++ items {I = g.row.I.Denot} l.0 = ap (λ ks. items_of_parts {I = g.row.I.Denot} ks) two ∙ items-two {I = g.row.I.Denot} k l in
    let high : rank_above {I = g.row.I.Denot} c.put_two.new.parts.items ≡ rank_above {I = g.row.I.Denot} (k ∷ l ∷ []) = ap (λ ks. rank_above {I = g.row.I.Denot} ks) two in
    let rank = ap (λ v. v.1) c.seq.view_is in
    let n = ap length held in
    let sum = length-append (items {I = g.row.I.Denot} k.0) (items {I = g.row.I.Denot} l.0) in
    let m = ap length here in
    let o = ap length there in
    let of = total g.I.Measure.Monoid.none g.I.Measure.Monoid.plus g.I.Item.measure in
    record {
      counted = omega (arith, n, sum, m, o, c.seq.invariant.counted, c.second.invariant.counted);
      ranked = omega (arith, high, rank, c.seq.invariant.ranked, c.requires.second.rank_is);
      few = omega (arith, rank, c.seq.invariant.ranked, c.requires.low);
      measured = c.plus-measure.ensures ∙ ap (λ x. g.I.Measure.Monoid.plus x c.second.inside.measure) (c.seq.invariant.measured ∙ ap of here) ∙ ap (g.I.Measure.Monoid.plus (of (items {I = g.row.I.Denot} k.0))) (c.second.invariant.measured ∙ ap of there)
          ∙ sym (total-append g.I.Measure.Monoid.none g.I.Measure.Monoid.plus g.I.Item.measure g.met.I.Measure.Monoid.laws (items {I = g.row.I.Denot} k.0) (items {I = g.row.I.Denot} l.0)) ∙ ap of (sym held);
      level = subst (AreLevel {I = g.row.I.Denot}) (sym two) (two_level {I = g.row.I.Denot} k l k.1 refl c.requires.second c.requires.first);
    }

pub returns-clause-kept : goal.returns-clause-kept
returns-clause-kept g c =
    let k = c.args.seq.now in
    let l = c.args.second in
    let two : c.put_two.new.parts.items ≡ k ∷ l ∷ [] = c.put_two.ensures ∙ ap (λ p. p ∷ l ∷ []) c.replace-first.ensures.value in
    kept_eq {I = g.row.I.Denot} (k.0 ++ l.0) (leaves_of_parts {I = g.row.I.Denot} c.put_two.new.parts.items) (ap (λ ks. leaves_of_parts {I = g.row.I.Denot} ks) two ∙ ap (λ r. k.0 ++ r) (append-nil l.0))
