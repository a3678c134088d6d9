use Rattle.std.proofs.Common.{◌≡◌, take}
use Rattle.df_ops.specs.Joins.{columns_of_join}
use Rattle.df_ops.proofs.join_columns.columns_of_join.Given as goal

abbrev pub invariant-loop-column : goal.invariant-loop-column
invariant-loop-column l = l.out.items ≡ columns_of_join l.left (take l.column-index l.right) l.keys
