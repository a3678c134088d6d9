use Rattle.std.proofs.Common.{◌≡◌, ◌*◌, ◌^◌, pos, ◌+ℤ◌, ◌≤ℤ◌, drop}
use Rattle.std.specs.Prelude.{fold}
use Rattle.df_ops.specs.Aggregates.{cells_of, sum_of, sum_with, number_of}
use Rattle.df_ops.proofs.aggregates.sum_of.Given as goal

abbrev pub invariant-loop-row : goal.invariant-loop-row
invariant-loop-row l = record {
  so_far : sum_of (cells_of l.index l.rows) ≡ fold (λ sum c. sum_with sum (number_of c)) l.sum (cells_of l.index (drop l.row-index l.rows));
  least : pos 0 ≤ℤ (l.sum +ℤ pos (l.row-index * 2 ^ 63));
  most : l.sum ≤ℤ pos (l.row-index * 2 ^ 63);
}
