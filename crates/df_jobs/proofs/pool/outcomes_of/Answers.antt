use Rattle.std.proofs.Common.{◌∙◌, sym}
use Rattle.std.proofs.lemmas.Iterator.Adapters.{YieldsList-from_vec}
use Rattle.std.proofs.lemmas.Iterator.Consumers.{YieldsList-end}
use Rattle.std.proofs.lemmas.List.{map-id}
use Rattle.df_jobs.proofs.WorkerFacts.{all-done, none-running, one-more-done}
use Rattle.df_jobs.proofs.pool.outcomes_of.Goals as goal

pub loop-worker-init : goal.loop-worker-init
loop-worker-init g c = (c.new-all.ensures.items, none-running {A = g.row.Acc.Denot} {D = g.row.Del.Denot})

pub loop-worker-preserved : goal.loop-worker-preserved
loop-worker-preserved g c =
    one-more-done c.loop-worker.yielded c.in-Some-worker.worker c.loop-worker.all.items c.give_outcomes.new.all.items c.loop-worker.invariant
    c.in_ok-give_outcomes.ensures.given c.in_ok-give_outcomes.ensures.running

pub returns : goal.returns
returns g c =
    let given = c.into_iter-worker-iterator.ensures.into_iter_gives in
    let end =
    YieldsList-end (YieldsList-from_vec {s = c.into_iter-worker-iterator.result} c.args.workers.items given.0 (given.1 ∙ c.args.workers.ok.0)) c.loop-worker.yielded
    c.loop-worker.worker-iterator c.loop-worker.yielded_by c.next.result c.next.new.self c.in-None.is c.next.ensures.steps in
    let done = all-done c.loop-worker.yielded c.args.workers.items c.loop-worker.all.items (sym (map-id c.loop-worker.yielded) ∙ end.0) c.loop-worker.invariant in
    record { outcomes = done.0; running = done.1 }
