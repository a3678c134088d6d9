use Rattle.std.proofs.Common.{◌≡◌, take, map}
use Rattle.std.specs.List.{enumerate_from}
use Rattle.df_ops.proofs.places.numbered.Given as goal

abbrev pub invariant-loop-index : goal.invariant-loop-index
invariant-loop-index g l =
    l.places.items ≡ map (λ p. (p.1.0, record { origin = l.origin; index = p.0 })) (take l.index (enumerate_from 0 l.items))
