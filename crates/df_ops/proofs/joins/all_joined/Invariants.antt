use Rattle.std.proofs.Common.{◌≡◌, take}
use Rattle.df_ops.specs.Joins.{join_rows}
use Rattle.df_ops.proofs.joins.all_joined.Given as goal

abbrev pub invariant-loop-left : goal.invariant-loop-left
invariant-loop-left l = l.rows.items ≡ join_rows l.how l.join_indices (take l.left-index l.lefts) l.rights
