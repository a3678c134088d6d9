use Rattle.std.proofs.Common.{◌≡◌, ◌++◌, ◌+◌, ◌*◌, ◌^◌, pos, ◌+ℤ◌, ◌≤ℤ◌, drop}
use Rattle.df_ops.specs.Aggregates.{cells_of}
use Rattle.df_ops.specs.LoopStates.{cum_sum_after}
use Rattle.df_nodes.proofs.tail_sums.sums_behind.Given as goal

abbrev pub invariant-loop-row : goal.invariant-loop-row
invariant-loop-row l =
    record {
      so_far : cum_sum_after l.fn.before (cells_of l.index l.rows) ≡ l.cells.items ++ cum_sum_after l.sum (cells_of l.index (drop l.row-index l.rows));
      least : pos 0 ≤ℤ (l.sum +ℤ pos (2 ^ 123 + l.row-index * 2 ^ 63));
      most : l.sum ≤ℤ pos (2 ^ 123 + l.row-index * 2 ^ 63);
    }
