use Rattle.std.proofs.Common.{◌≡◌, take}
use Rattle.df_ops.specs.Groups.{key_of}
use Rattle.df_ops.proofs.groups.key_of.Given as goal

abbrev pub invariant-loop-index : goal.invariant-loop-index
invariant-loop-index l = l.key.items ≡ key_of (take l.index-index l.indices) l.row
