use Rattle.std.proofs.Common.{◌≡◌, ◌≤◌, take}
use Rattle.df_ops.specs.Aggregates.{cells_of, count_of}
use Rattle.df_ops.proofs.aggregates.count_non_null.Given as goal

abbrev pub invariant-loop-row : goal.invariant-loop-row
invariant-loop-row l = record {
  so_far : l.count ≡ count_of (cells_of l.index (take l.row-index l.rows));
  within : l.count ≤ l.row-index;
}
