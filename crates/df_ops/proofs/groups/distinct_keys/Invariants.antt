use Rattle.std.proofs.Common.{◌≡◌, drop, map}
use Rattle.df_ops.specs.Groups.{key_of, keys_of, distinct_after}
use Rattle.df_ops.proofs.groups.distinct_keys.Given as goal

abbrev pub invariant-loop-row : goal.invariant-loop-row
invariant-loop-row l =
    keys_of l.indices l.rows ≡ distinct_after l.keys.items (map (key_of l.indices) (drop l.row-index l.rows))
