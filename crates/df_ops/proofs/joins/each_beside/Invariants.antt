use Rattle.std.proofs.Common.{◌≡◌, ◌++◌, take, map}
use Rattle.df_ops.proofs.joins.each_beside.Given as goal

abbrev pub invariant-loop-rest : goal.invariant-loop-rest
invariant-loop-rest l = l.rows.items ≡ map (λ rest. l.left ++ rest) (take l.rest-index l.rests)
