use Rattle.std.proofs.Common.{◌≡◌, drop, length}
use Rattle.std.specs.Prelude.{All}
use Rattle.df_state.specs.Desks.{HaveSameSums}
use Rattle.df_jobs.specs.Workers.{HasNotBegun, IsIdle, desks_of}
use Rattle.df_jobs.proofs.splitting.share_desks.Given as goal

abbrev pub invariant-loop-at : goal.invariant-loop-at
invariant-loop-at g l = record {
  begun : All (HasNotBegun l.work.claims.now l.work.desks) l.workers;
  idle : All (IsIdle l.work.claims.now l.work.desks) (drop l.at l.workers);
  count : length l.workers ≡ length l.fn.workers;
  sums : HaveSameSums (desks_of l.fn.workers) (desks_of l.workers);
}
