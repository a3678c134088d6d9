use Rattle.df_jobs.specs.Jobs.{AreOutcomes, chunks_of}
use Rattle.df_jobs.proofs.worker.make_all.Given as goal

abbrev pub invariant-loop-job : goal.invariant-loop-job
invariant-loop-job g l = AreOutcomes (chunks_of g.S.Source.made g.S.Source.start_of l.work.sources.now) l.made.items
