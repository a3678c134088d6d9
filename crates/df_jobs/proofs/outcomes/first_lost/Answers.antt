use Rattle.std.proofs.Common.{◌≡◌, ℕ, ◌+◌, ◌<◌, ◌∙◌, List, [], ◌∷◌, ◌++◌, map, length, take, get_or, ap, sym, arith}
use Rattle.std.specs.List.{range_with_len}
use Rattle.df_state.proofs.ListFacts.{map-more, take-more}
use Rattle.df_jobs.specs.declared.jobs.Outcome.{Outcome}
use Rattle.df_state.proofs.ListFacts.{take-all}
use Rattle.df_jobs.proofs.OutcomeFacts.{range-more}
use Rattle.df_jobs.proofs.LostFacts.{lost-at, lost-behind}
use Rattle.df_jobs.proofs.outcomes.first_lost.Goals as goal

one-more :
    (os : List Outcome) (i : ℕ) (o : Outcome) → i < length os → (get_or os i o).job ≡ i → map (λ x. x.job) (take i os) ≡ range_with_len 0 i →
    map (λ x. x.job) (take (i + 1) os) ≡ range_with_len 0 (i + 1)
one-more os i o h at was =
    let e : i ≡ 0 + i = omega arith in
    ap (map (λ x. x.job)) (take-more os i o h)
    ∙ (map-more (λ x. x.job) (take i os) (get_or os i o)
    ∙ (ap (λ ns. ns ++ (get_or os i o).job ∷ []) was
    ∙ (ap (λ n. range_with_len 0 i ++ n ∷ []) (at ∙ e)
    ∙ sym (range-more 0 i))))

pub loop-at-preserved : goal.loop-at-preserved
loop-at-preserved c =
    one-more c.args.outcomes.now c.loop-at.at c.index-outcomes-at.result c.loop-at-test.true c.if-job-at.false c.loop-at.invariant

pub returns-then-job-at-clause-lost : goal.returns-then-job-at-clause-lost
returns-then-job-at-clause-lost c =
    let os = c.args.outcomes.now in
    let o = get_or os c.loop-at.at c.index-outcomes-at.result in
    let least = c.min.ensures in
    lost-at os c.args.jobs c.loop-at.at c.min.result o c.requires.order c.requires.within c.loop-at-test.true
    (ap (get_or os c.loop-at.at) c.index-outcomes-at.is) c.loop-at.invariant c.if-job-at.true (λ l. omega (arith, least, l)) (λ l. omega (arith, least, l))

pub returns-else-len-jobs-clause-lost : goal.returns-else-len-jobs-clause-lost
returns-else-len-jobs-clause-lost c =
    let os = c.args.outcomes.now in
    let ended = c.loop-at-test.false in
    let most = c.loop-at.auto.at-end in
    let at : c.loop-at.at ≡ length os = omega (arith, ended, most) in
    lost-behind os c.args.jobs c.requires.within
    (sym (ap (map (λ o. o.job)) (take-all os c.loop-at.at ended)) ∙ (c.loop-at.invariant ∙ ap (range_with_len 0) at)) c.if-len-jobs.false
