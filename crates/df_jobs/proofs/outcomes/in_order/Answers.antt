use Rattle.std.proofs.lemmas.List.Sorted.{All-permutation}
use Rattle.df_jobs.specs.declared.jobs.Outcome.{Outcome}
use Rattle.df_jobs.specs.Jobs.{IsOutcome, chunks_of}
use Rattle.df_jobs.proofs.outcomes.in_order.Goals as goal

pub returns-clause-outcomes : goal.returns-clause-outcomes
returns-clause-outcomes g c =
    All-permutation (λ (o : Outcome). IsOutcome (chunks_of g.S.Source.made g.S.Source.start_of c.args.sources.now) o) c.args.outcomes.items c.by_job.result.items
    c.by_job.ensures.same c.requires
