use Rattle.df_jobs.specs.Jobs.{chunks_of, jobs_of}
use Rattle.df_store.proofs.GatheredFacts.{gathered-left, gathered-shares}
use Rattle.df_store.proofs.LeftFacts.{given-up}
use Rattle.df_store.proofs.load.load_all.Goals as goal

pub returns-clause-shares : goal.returns-clause-shares
returns-clause-shares g c =
    gathered-shares c.args.desks.items c.gather.new.desks.items c.gather.ensures.joined.sums (λ l. l.catalogue.state)
    (jobs_of (chunks_of g.S.Source.made g.S.Source.start_of c.args.sources.now)) c.run_load.result c.run_load.ensures.shares

pub returns-clause-left : goal.returns-clause-left
returns-clause-left g c =
    gathered-left c.args.desks.items c.gather.new.desks.items c.gather.ensures.joined.sums g.J.Naming.schemas
    (chunks_of g.S.Source.made g.S.Source.start_of c.args.sources.now) c.args.views.now (λ l. l.0.state) (λ f. f.cause) (λ f. f.told) (λ f. f.left) c.run_load.result c.run_load.ensures.left

pub returns-in-Err-clause-left : goal.returns-in-Err-clause-left
returns-in-Err-clause-left g c =
    let chunks = chunks_of g.S.Source.made g.S.Source.start_of c.args.sources.now in
    let given = c.given_up.ensures in
    rw given.cause
    (given-up g.J.Naming.schemas chunks c.args.views.now c.args.desks.items (λ l. l.0.state) c.begin.new.catalogue c.given_up.result.told c.in-Err.cause c.given_up.result.left
    given.over given.told c.in-Err.ensures.cause given.left given.not_left)
