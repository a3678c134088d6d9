use Rattle.std.proofs.Common.{◌≡◌, map, take}
use Rattle.df_jobs.specs.Stops.{first_stop}
use Rattle.df_jobs.proofs.pool.stop_of.Given as goal

abbrev pub invariant-loop-worker : goal.invariant-loop-worker
invariant-loop-worker g l = l.first ≡ first_stop (map (λ w. w.stopped) (take l.worker-index l.workers))
