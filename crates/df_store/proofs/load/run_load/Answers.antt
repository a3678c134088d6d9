use Rattle.std.proofs.Common.{subst}
use Rattle.df_jobs.specs.Jobs.{chunks_of, jobs_of}
use Rattle.df_store.specs.Grown.{HaveGrown}
use Rattle.df_store.proofs.LeftFacts.{ended-so, handed-outcomes, handed-rows}
use Rattle.df_store.proofs.LoadFacts.{shares-of-load}
use Rattle.df_store.proofs.load.run_load.Goals as goal

pub finish-requires-clause-entered : goal.finish-requires-clause-entered
finish-requires-clause-entered g c κs within =
    handed-outcomes (λ os. os.items) (chunks_of g.S.Source.made g.S.Source.start_of c.args.work.now.sources.now) c.args.desks.items c.do_jobs-desks.result.0.items c.do_jobs-desks.result.1
    c.do_jobs-desks.ensures.done

pub returns-clause-shares : goal.returns-clause-shares
returns-clause-shares g c =
    let chunks = chunks_of g.S.Source.made g.S.Source.start_of c.args.work.now.sources.now in
    let done = c.do_jobs-desks.ensures.done in
    shares-of-load (λ l. l.catalogue.state) (λ os. os.items) c.args.desks.items c.do_jobs-desks.result.0.items (jobs_of chunks) c.finish.result c.do_jobs-desks.result.1
    c.finish.ensures.settled (handed-rows (λ os. os.items) chunks c.args.desks.items c.do_jobs-desks.result.0.items c.do_jobs-desks.result.1 done) done.deleted c.finish.ensures.entered

pub returns-clause-left : goal.returns-clause-left
returns-clause-left g c =
    let chunks = chunks_of g.S.Source.made g.S.Source.start_of c.args.work.now.sources.now in
    let end = c.finish.ensures in
    let last = c.into_catalogue.result in
    let grown : HaveGrown chunks c.args.catalogue last =
    rw c.requires.history (subst (λ cs. HaveGrown cs g.B.Beginning.history last) c.requires.chunks c.into_catalogue.ensures) in
    ended-so g.J.Naming.schemas chunks c.args.views.now c.args.desks.items (λ l. l.0.state) (λ os. os.items) (λ f. f.cause) (λ f. f.told) (λ f. f.left)
    c.do_jobs-desks.result.0.items c.do_jobs-desks.result.1 c.finish.result c.args.catalogue last c.do_jobs-desks.ensures.parts c.do_jobs-desks.ensures.done
    c.requires.agreed c.requires.over c.requires.registered end.over grown end.left end.cause end.not_left end.told
