use Rattle.std.proofs.Common.{◌≡◌, take, map}
use Rattle.df_ops.specs.Groups.{key_of}
use Rattle.df_ops.specs.Joins.{matches_of}
use Rattle.df_ops.proofs.joins.matched_rests.Given as goal

abbrev pub invariant-loop-right : goal.invariant-loop-right
invariant-loop-right l =
    l.rests.items ≡ map (key_of l.rest) (matches_of l.nulls_equal l.indices l.key (take l.right-index l.rights))
