use Rattle.std.proofs.Common.{◌≡◌}
use Rattle.df_jobs.specs.Jobs.{chunks_of}
use Rattle.df_jobs.specs.Counted.{AreCounted, all_without_accepted}
use Rattle.df_jobs.specs.Workers.{IsWorker}
use Rattle.df_store.proofs.working.do_all.Given as goal

abbrev pub invariant-loop : goal.invariant-loop
invariant-loop g l = record {
  worker : IsWorker l.work.claims.now l.work.desks (chunks_of g.S.Source.made g.S.Source.start_of l.work.sources.now) l.worker;
  desks : all_without_accepted l.worker.desks.items ≡ all_without_accepted l.fn.worker.desks.items;
  counted : AreCounted l.fn.worker.desks.items l.fn.worker.done.items l.worker.desks.items l.worker.done.items;
}
