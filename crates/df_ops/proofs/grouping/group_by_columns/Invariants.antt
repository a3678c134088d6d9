use Rattle.std.proofs.Common.{◌≡◌, ◌++◌, take, map}
use Rattle.df_ops.specs.Tables.{key_column, aggregate_column}
use Rattle.df_ops.proofs.grouping.group_by_columns.Given as goal

abbrev pub invariant-loop-name : goal.invariant-loop-name
invariant-loop-name l = l.out.items ≡ map (key_column l.columns) (take l.name-index l.keys)

abbrev pub invariant-loop-agg : goal.invariant-loop-agg
invariant-loop-agg l =
    l.out.items ≡ map (key_column l.columns) l.keys ++ map (aggregate_column l.columns) (take l.agg-index l.aggs)
