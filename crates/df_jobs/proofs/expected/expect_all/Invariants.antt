use Rattle.df_jobs.specs.Expected.{AreExpected}
use Rattle.df_jobs.proofs.expected.expect_all.Given as goal

abbrev pub invariant-loop-outcome : goal.invariant-loop-outcome
invariant-loop-outcome l = AreExpected l.frames l.yielded l.all.items l.counts.items
