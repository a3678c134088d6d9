use Rattle.std.proofs.Common.{◌≡◌, ◌+◌, length}
use Rattle.std.specs.Prelude.{All}
use Rattle.df_jobs.specs.Workers.{IsIdle}
use Rattle.df_jobs.proofs.pool.push_idle.Given as goal

abbrev pub invariant-loop-seat : goal.invariant-loop-seat
invariant-loop-seat g l =
    All (IsIdle l.work.claims.now l.work.desks) l.workers.items × (length l.workers.items ≡ length l.fn.workers.items + length l.yielded)
