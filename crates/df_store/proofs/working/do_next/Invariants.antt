use Rattle.std.proofs.Common.{◌≡◌, length}
use Rattle.df_jobs.specs.Jobs.{AreOutcomes, chunks_of}
use Rattle.df_jobs.specs.Counted.{AreCounted, all_without_accepted}
use Rattle.df_jobs.specs.Workers.{IsWorker}
use Rattle.df_store.proofs.working.do_next.Given as goal

abbrev pub invariant-loop-left : goal.invariant-loop-left
invariant-loop-left g l = record {
  worker : IsWorker l.work.claims.now l.work.desks (chunks_of g.S.Source.made g.S.Source.start_of l.work.sources.now) l.worker;
  desks : all_without_accepted l.worker.desks.items ≡ all_without_accepted l.fn.worker.desks.items;
  counted : AreCounted l.fn.worker.desks.items l.fn.worker.done.items l.worker.desks.items l.worker.done.items;
  left : AreOutcomes (chunks_of g.S.Source.made g.S.Source.start_of l.work.sources.now) l.left.items;
}

abbrev pub decreases-loop-left : goal.decreases-loop-left
decreases-loop-left g l = length l.left.items
