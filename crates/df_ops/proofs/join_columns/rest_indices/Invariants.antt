use Rattle.std.proofs.Common.{◌≡◌, take, map}
use Rattle.df_ops.specs.Joins.{columns_without_keys}
use Rattle.df_ops.specs.NamedColumns.{column_indices}
use Rattle.df_ops.proofs.join_columns.rest_indices.Given as goal

abbrev pub invariant-loop-column : goal.invariant-loop-column
invariant-loop-column l =
    l.indices.items ≡ column_indices l.right (map (λ c. c.0) (columns_without_keys l.keys (take l.column-index l.right)))
