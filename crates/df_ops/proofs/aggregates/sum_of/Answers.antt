use Rattle.df_value.specs.declared.cell.Cell.{Cell}
use Rattle.std.proofs.lemmas.Int.{ints, to_z-of_z}
use Rattle.df_ops.specs.Aggregates.{sum_with, cells_of, number_of}
use Rattle.std.proofs.lemmas.List.{at_drop_all, drop_more}
use Rattle.std.specs.Int.{w128}
use Rattle.std.specs.Prelude.{fold, ℤ}
use Rattle.std.proofs.Common.{◌∙◌, sym, to_z, List, ◌∷◌, ◌+◌, ap, arith, drop}
use Rattle.df_ops.proofs.AggregateLaws.{sum_is_sum}
use Rattle.df_ops.proofs.aggregates.sum_of.Goals as goal

pub returns-clause-value : goal.returns-clause-value
returns-clause-value c =
    sym
    (c.loop-row.invariant.so_far
    ∙ at_drop_all (λ rows. fold (λ sum v. sum_with sum (number_of v)) (to_z w128 c.loop-row.sum-bits) (cells_of c.args.index rows)) c.args.rows.now
    c.loop-row.row-index c.loop-row-test.false)

pub loop-row-preserved : goal.loop-row-preserved
loop-row-preserved c =
    let rows = c.args.rows.now in
    let i = c.loop-row.row-index in
    let row = c.row-item.result in
    let so_far = to_z w128 c.loop-row.sum-bits in
    let after = λ (s : ℤ) (rest : List (List Cell)). fold (λ sum v. sum_with sum (number_of v)) s (cells_of c.args.index rest) in
    let next = drop_more rows i row c.loop-row-test.true ∙ ap (λ v. v ∷ drop (i + 1) rows) (sym c.row-item.is) in
    record {
      so_far =
          c.loop-row.invariant.so_far
          ∙ (ap (after so_far) next
          ∙ ap (λ s. after s (drop (i + 1) rows))
          (sym (to_z-of_z w128 c.next_sum-sum.result (omega (arith, ints)) ∙ (c.next_sum-sum.ensures.value ∙ ap (sum_with so_far) c.number_at.ensures))));
      least = omega (arith, ints);
      most = omega (arith, ints);
    }

pub returns-clause-sums : goal.returns-clause-sums
returns-clause-sums c = sum_is_sum
