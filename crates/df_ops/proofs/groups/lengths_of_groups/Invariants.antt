use Rattle.std.proofs.Common.{◌≡◌, take, map, length}
use Rattle.df_ops.specs.Groups.{group_of}
use Rattle.df_ops.proofs.groups.lengths_of_groups.Given as goal

abbrev pub invariant-loop-key : goal.invariant-loop-key
invariant-loop-key l =
    l.lengths.items ≡ map (λ k. length (group_of l.indices l.rows k)) (take l.key-index l.keys)
