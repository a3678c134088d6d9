use Rattle.std.proofs.Common.{◌≡◌, length, take, sum_by}
use Rattle.df_jobs.proofs.jobs.job_count.Given as goal

abbrev pub invariant-loop-source : goal.invariant-loop-source
invariant-loop-source g l = l.count ≡ sum_by (λ s. length (g.S.Source.made s)) (take l.source-index l.sources)
