use Rattle.std.proofs.Common.{◌≡◌, take}
use Rattle.df_ops.specs.NamedColumns.{column_indices}
use Rattle.df_ops.proofs.join_columns.column_indices.Given as goal

abbrev pub invariant-loop-name : goal.invariant-loop-name
invariant-loop-name l = l.indices.items ≡ column_indices l.columns (take l.name-index l.names)
