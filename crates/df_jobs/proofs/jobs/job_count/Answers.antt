use Rattle.std.proofs.Common.{◌∙◌, length, ap, sym, arith, sum_by}
use Rattle.std.proofs.lemmas.List.Sums.{sum_by_more_le_part}
use Rattle.df_jobs.proofs.JobFacts.{jobs-of-chunks}
use Rattle.df_state.proofs.ListFacts.{take-all}
use Rattle.df_jobs.proofs.jobs.job_count.Goals as goal

pub overflow_add-count : goal.overflow_add-count
overflow_add-count g c =
    let low = c.loop-source-test.true in
    let part = sum_by_more_le_part (λ s. length (g.S.Source.made s)) (λ s. length (g.S.Source.made s)) c.args.sources.now c.loop-source.source-index c.source-item.result low (λ s. omega arith) in
    let is = ap (λ s. length (g.S.Source.made s)) c.source-item.is in
    let so_far = c.loop-source.invariant in
    let this = c.chunks-count.ensures in
    let all = jobs-of-chunks g.S.Source.made g.S.Source.start_of c.args.sources.now in
    let few = c.requires in
    omega (arith, part, is, so_far, this, all, few)

pub returns : goal.returns
returns g c =
    c.loop-source.invariant
    ∙ (ap (sum_by (λ s. length (g.S.Source.made s))) (take-all c.args.sources.now c.loop-source.source-index c.loop-source-test.false)
    ∙ sym (jobs-of-chunks g.S.Source.made g.S.Source.start_of c.args.sources.now))
