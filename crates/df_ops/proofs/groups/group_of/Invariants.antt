use Rattle.std.proofs.Common.{◌≡◌, take}
use Rattle.df_ops.specs.Groups.{group_of}
use Rattle.df_ops.proofs.groups.group_of.Given as goal

abbrev pub invariant-loop-row : goal.invariant-loop-row
invariant-loop-row l = l.group.items ≡ group_of l.indices (take l.row-index l.rows) l.key
