use Rattle.std.proofs.Common.{◌≡◌}
use Rattle.df_jobs.specs.Jobs.{chunks_of}
use Rattle.df_jobs.specs.Workers.{IsWorker}
use Rattle.df_jobs.proofs.worker.Worker.draw.Given as goal

abbrev pub invariant-loop : goal.invariant-loop
invariant-loop g l = record {
  worker : IsWorker l.work.claims.now l.work.desks (chunks_of g.S.Source.made g.S.Source.start_of l.work.sources.now) l.self;
  desks : l.self.desks ≡ l.fn.self.desks;
  done : l.self.done ≡ l.fn.self.done;
}
