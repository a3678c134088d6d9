use Rattle.std.proofs.Common.{◌∙◌, length, map, ap, sym, subst}
use Rattle.std.specs.Prelude.{IfNone, IfSome, filter_map}
use Rattle.std.proofs.lemmas.Bool.{false≢true}
use Rattle.df_jobs.specs.Jobs.{chunks_of, job_of, jobs_of}
use Rattle.df_jobs.specs.Loaded.{AreLoaded, IsUnlike}
use Rattle.df_jobs.specs.Lost.{IsLost}
use Rattle.df_jobs.specs.Refused.{refusal}
use Rattle.df_jobs.proofs.BegunFacts.{outcomes-begun}
use Rattle.df_store.proofs.LoadFacts.{entered-jobs}
use Rattle.df_jobs.proofs.LostFacts.{lost-of-order, one-each}
use Rattle.df_jobs.proofs.OutcomeFacts.{compared}
use Rattle.df_store.proofs.findings.compare.Goals as goal

pub unlike_frame-requires-clause-begun : goal.unlike_frame-requires-clause-begun
unlike_frame-requires-clause-begun g c κs within =
    outcomes-begun g.S.Source.made g.S.Source.start_of g.met.S.Source.starts c.args.work.now.sources.now c.in_order-outcomes.result.items c.in_order-outcomes.ensures.outcomes

pub returns-in-Some-clause-difference : goal.returns-in-Some-clause-difference
returns-in-Some-clause-difference g c =
    subst (λ n. IsLost n c.args.outcomes.items c.in-Some.job) c.requires.jobs
    (lost-of-order c.args.work.now.jobs c.in-Some.job c.args.outcomes.items c.in_order-outcomes.result.items c.in_order-outcomes.ensures.same
    (subst (λ os. IsLost c.args.work.now.jobs os c.in-Some.job) c.as_slice-2.ensures.value c.in-Some.ensures.lost))

pub returns-in-Some-unlike-clause-difference : goal.returns-in-Some-unlike-clause-difference
returns-in-Some-unlike-clause-difference g c =
    let chunks = chunks_of g.S.Source.made g.S.Source.start_of c.args.work.now.sources.now in
    let os = c.in_order-outcomes.result.items in
    let s = c.args.catalogue.now.state in
    let is = compared chunks os c.as_slice-2.result.now c.args.work.now.jobs c.in_order-outcomes.ensures.outcomes c.as_slice-2.ensures.value c.in_default.ensures.none c.requires.jobs in (
      subst (λ jobs. IsUnlike jobs s c.in-Some-unlike.frame) is
          (subst (λ o. IfSome o (IsUnlike (map job_of os) s)) c.in-Some-unlike.is c.in_ok-unlike.ensures.unlike),
      one-each c.args.outcomes.items os c.as_slice-2.result.now c.args.work.now.jobs (length (jobs_of chunks)) c.in_order-outcomes.ensures.same c.as_slice-2.ensures.value
          c.in_default.ensures.none c.requires.jobs,
    )

pub returns-then-not-are_views-clause-difference : goal.returns-then-not-are_views-clause-difference
returns-then-not-are_views-clause-difference g c =
    let chunks = chunks_of g.S.Source.made g.S.Source.start_of c.args.work.now.sources.now in
    let os = c.in_order-outcomes.result.items in
    let s = c.args.catalogue.now.state in
    let is = compared chunks os c.as_slice-2.result.now c.args.work.now.jobs c.in_order-outcomes.ensures.outcomes c.as_slice-2.ensures.value c.in_default.ensures.none c.requires.jobs in (
      λ e. false≢true (sym c.if-not-are_views.true ∙ c.are_views.ensures.1 e),
      subst (λ jobs. AreLoaded jobs s) is
          (subst (λ o. IfNone o (AreLoaded (map job_of os) s)) c.in_default-unlike.is c.in_ok-unlike.ensures.loaded),
      one-each c.args.outcomes.items os c.as_slice-2.result.now c.args.work.now.jobs (length (jobs_of chunks)) c.in_order-outcomes.ensures.same c.as_slice-2.ensures.value
          c.in_default.ensures.none c.requires.jobs,
    )

pub returns-clause-loaded : goal.returns-clause-loaded
returns-clause-loaded g c =
    let chunks = chunks_of g.S.Source.made g.S.Source.start_of c.args.work.now.sources.now in
    let os = c.in_order-outcomes.result.items in
    let is = compared chunks os c.as_slice-2.result.now c.args.work.now.jobs c.in_order-outcomes.ensures.outcomes c.as_slice-2.ensures.value c.in_default.ensures.none c.requires.jobs in
    subst (λ jobs. AreLoaded jobs c.args.catalogue.now.state) is
    (subst (λ o. IfNone o (AreLoaded (map job_of os) c.args.catalogue.now.state)) c.in_default-unlike.is c.in_ok-unlike.ensures.loaded)

pub returns-clause-refused : goal.returns-clause-refused
returns-clause-refused g c =
    let chunks = chunks_of g.S.Source.made g.S.Source.start_of c.args.work.now.sources.now in
    let os = c.in_order-outcomes.result.items in
    let is = compared chunks os c.as_slice-2.result.now c.args.work.now.jobs c.in_order-outcomes.ensures.outcomes c.as_slice-2.ensures.value c.in_default.ensures.none c.requires.jobs in
    c.from_vec.ensures ∙ (c.in_ok-refused.ensures ∙ (ap (λ os. filter_map refusal (map job_of os)) c.as_slice.ensures.value ∙ ap (filter_map refusal) is))

pub returns-clause-entered : goal.returns-clause-entered
returns-clause-entered g c =
    let chunks = chunks_of g.S.Source.made g.S.Source.start_of c.args.work.now.sources.now in
    let os = c.in_order-outcomes.result.items in
    let is = compared chunks os c.as_slice-2.result.now c.args.work.now.jobs c.in_order-outcomes.ensures.outcomes c.as_slice-2.ensures.value c.in_default.ensures.none c.requires.jobs in
    entered-jobs c.args.outcomes.items os (jobs_of chunks) c.in_order-outcomes.ensures.same is
