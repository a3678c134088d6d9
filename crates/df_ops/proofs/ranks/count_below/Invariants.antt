use Rattle.std.proofs.Common.{◌≡◌, ◌≤◌, take}
use Rattle.df_ops.proofs.ranks.count_below.Given as goal
use Rattle.df_ops.specs.Ranks as ranks

abbrev pub invariant-loop-row : goal.invariant-loop-row
invariant-loop-row l = record {
  so_far : l.count ≡ ranks.count_below l.index (take l.row-index l.rows) l.cell;
  within : l.count ≤ l.row-index;
}
