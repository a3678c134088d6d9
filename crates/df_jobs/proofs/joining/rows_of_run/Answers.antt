use Rattle.std.proofs.Common.{◌≡◌, ◌+◌, ◌∙◌, length, subst, sym, take, arith}
use Rattle.df_jobs.specs.Joined.{IsGoodAt}
use Rattle.df_jobs.specs.Made.{rows_in}
use Rattle.df_jobs.proofs.JoinedFacts.{count-more, followed-more}
use Rattle.df_jobs.proofs.joining.rows_of_run.Goals as goal

pub loop-outcome-preserved : goal.loop-outcome-preserved
loop-outcome-preserved c =
    let frame = c.args.frame in
    let schema = c.args.begin.now.schema in
    let first = c.args.begin.now.first in
    let os = c.args.outcomes.now in
    let i = c.loop-outcome.outcome-index in
    let o = c.outcome-item.result in
    let low = c.loop-outcome-test.true in
    let was = c.loop-outcome.invariant.count in
    let all = c.in_ok-rows.ensures.count in
    let more = count-more os i o low c.outcome-item.is in
    let part = subst (λ n. IsGoodAt frame schema (first + n) o) was c.in_ok-rows.ensures.part in record {
      follow = followed-more frame schema first os i o low c.outcome-item.is c.loop-outcome.invariant.follow part;
      count = omega (arith, was, all, more);
      few = c.in_ok-rows.ensures.few;
    }
