use Rattle.std.proofs.Common.{◌≡◌, ◌++◌, take, map}
use Rattle.df_ops.specs.Tables.{aggregate_cell}
use Rattle.df_ops.proofs.grouping.group_row.Given as goal

abbrev pub invariant-loop-agg : goal.invariant-loop-agg
invariant-loop-agg l =
    l.row.items ≡ l.key ++ map (λ a. aggregate_cell l.table.columns l.group.items a.1) (take l.agg-index l.aggs)
