use Rattle.std.proofs.Common.{◌≡◌}
use Rattle.std.specs.Prelude.{All, None}
use Rattle.df_jobs.specs.Workers.{outcomes_in}
use Rattle.df_jobs.proofs.pool.outcomes_of.Given as goal

abbrev pub invariant-loop-worker : goal.invariant-loop-worker
invariant-loop-worker g l = (l.all.items ≡ outcomes_in l.yielded) × All (λ w. w.stopped ≡ None) l.yielded
