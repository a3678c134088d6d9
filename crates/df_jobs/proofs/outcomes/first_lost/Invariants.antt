use Rattle.std.proofs.Common.{◌≡◌, map, take}
use Rattle.std.specs.List.{range_with_len}
use Rattle.df_jobs.proofs.outcomes.first_lost.Given as goal

abbrev pub invariant-loop-at : goal.invariant-loop-at
invariant-loop-at l = map (λ o. o.job) (take l.at l.outcomes) ≡ range_with_len 0 l.at
