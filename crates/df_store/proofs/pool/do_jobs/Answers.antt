use Rattle.std.proofs.Common.{◌∙◌, ap}
use Rattle.df_state.specs.Desks.{parts_of}
use Rattle.df_jobs.specs.Jobs.{chunks_of}
use Rattle.df_jobs.specs.Workers.{desks_of, outcomes_in}
use Rattle.df_jobs.proofs.CountFacts.{all-done, nothing-done, parts-in-all}
use Rattle.df_jobs.proofs.WorkerFacts.{all-outcomes}
use Rattle.df_store.proofs.pool.do_jobs.Goals as goal

pub returns-in-Err-clause-done : goal.returns-in-Err-clause-done
returns-in-Err-clause-done g c =
    nothing-done (λ os. os.items) (chunks_of g.S.Source.made g.S.Source.start_of c.args.work.now.sources.now) c.args.desks.items c.in-Err.desks.items _ c.in-Err.ensures.back

pub returns-clause-parts : goal.returns-clause-parts
returns-clause-parts g c =
    ap parts_of c.end.ensures.desks
    ∙ parts-in-all c.args.desks.items (desks_of c.in-Ok.pool.workers.items) (desks_of c.run_pool.new.pool.workers.items) c.in-Ok.ensures.sums c.run_pool.ensures.desks

pub returns-clause-done : goal.returns-clause-done
returns-clause-done g c =
    let chunks = chunks_of g.S.Source.made g.S.Source.start_of c.args.work.now.sources.now in
    let workers = c.run_pool.new.pool.workers.items in
    all-done (λ os. os.items) chunks c.args.desks.items (desks_of c.in-Ok.pool.workers.items) (desks_of workers) c.end.result.0.items (outcomes_in c.in-Ok.pool.workers.items)
    (outcomes_in workers) c.end.result.1 c.in-Ok.ensures.sums c.in-Ok.ensures.nothing_done c.run_pool.ensures.desks c.run_pool.ensures.counted c.end.ensures.desks
    (all-outcomes c.args.work.now.claims.now c.args.work.now.desks chunks workers c.run_pool.ensures.pool.workers) c.end.ensures.outcomes
