use Rattle.std.proofs.Common.{◌∙◌, ap, length, subst, sym, arith}
use Rattle.std.specs.Prelude.{All}
use Rattle.std.proofs.lemmas.List.{length_push}
use Rattle.std.proofs.lemmas.List.Elements.{All-push}
use Rattle.df_jobs.specs.Workers.{IsIdle}
use Rattle.df_jobs.proofs.pool.push_idle.Goals as goal

pub loop-seat-preserved : goal.loop-seat-preserved
loop-seat-preserved g c =
    let inv = c.loop-seat.invariant in
    let claims = c.args.work.now.claims.now in
    let most = c.args.work.now.desks in
    let ws = c.loop-seat.workers.items in
    let w = c.in_ok-idle.field-0 in
    let pushed = c.in_ok-push.ensures.items in
    let count = ap length pushed ∙ length_push ws w in
    let drawn = length_push c.loop-seat.yielded c.in-Some.seat in
    let so_far = inv.1 in
    (subst (λ vs. All (IsIdle claims most) vs) (sym pushed) (All-push (IsIdle claims most) ws w inv.0 c.in_ok-idle.ensures), omega (arith, count, drawn, so_far))
