use Rattle.std.proofs.Common.{◌≡◌, Ok, Some, map}
use Rattle.df_csv.proofs.threaded.parts_of.Given as goal

abbrev pub invariant-loop-outcome : goal.invariant-loop-outcome
invariant-loop-outcome l = l.yielded ≡ map (λ part. Ok (Some part)) l.parts.items
