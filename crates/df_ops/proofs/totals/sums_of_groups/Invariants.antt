use Rattle.std.proofs.Common.{◌≡◌, take, map}
use Rattle.df_ops.specs.Aggregates.{cells_of, sum_of}
use Rattle.df_ops.specs.Groups.{group_of}
use Rattle.df_ops.proofs.totals.sums_of_groups.Given as goal

abbrev pub invariant-loop-key : goal.invariant-loop-key
invariant-loop-key l =
    l.sums.items ≡ map (λ k. sum_of (cells_of l.index (group_of l.indices l.rows k))) (take l.key-index l.keys)
