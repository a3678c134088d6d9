use Rattle.std.proofs.Common.{◌≡◌, take, map}
use Rattle.df_ops.proofs.places.unnamed.Given as goal

abbrev pub invariant-loop-place : goal.invariant-loop-place
invariant-loop-place l = l.places.items ≡ map (λ p. p.1) (take l.place-index l.named)
