use Rattle.std.proofs.Common.{◌∙◌, ap, length, length-append, length-set, take, refl, arith}
use Rattle.df_jobs.specs.Workers.{desks_of}
use Rattle.df_jobs.specs.declared.worker.Worker.{Worker}
use Rattle.df_jobs.proofs.WorkerFacts.{drop-set, gathered-set, keys-set, one-more-worker, within-all}
use Rattle.df_jobs.proofs.pool.take_desks.Goals as goal

pub move_desks-requires : goal.move_desks-requires
move_desks-requires g c =
    let inv = c.loop-at.invariant in
    let here = within-all c.args.workers.now c.loop-at.workers c.loop-at.at c.index-workers-at.result c.loop-at-test.true inv.rest inv.count in
    let so_far = ap length inv.gathered in
    let more = length-append c.args.gathered.now.items (desks_of (take c.loop-at.at c.args.workers.now)) in
    let room = c.requires in
    let least = inv.capacity in
    omega (arith, here, so_far, more, room, least)

pub loop-at-preserved : goal.loop-at-preserved
loop-at-preserved g c =
    let inv = c.loop-at.invariant in
    let at = c.loop-at.at in
    let low = c.loop-at-test.true in
    let n = inv.count in
    let was = c.index-workers-at.result in
    let now : Worker g.row.Acc.Denot g.row.Del.Denot = record { desks = c.move_desks.new.desks; seat = was.seat; done = was.done; stopped = was.stopped } in record {
      count = length-set c.loop-at.workers at _ ∙ n;
      rest = drop-set c.loop-at.workers c.args.workers.now at _ inv.rest;
      capacity = let a = inv.capacity in let b = c.move_desks.ensures.capacity in omega (arith, a, b);
      gathered = one-more-worker c.args.workers.now c.loop-at.workers at was c.args.gathered.now.items c.loop-at.gathered.items c.move_desks.new.to.items low inv.rest
          n inv.gathered c.move_desks.ensures.moved;
      outcomes = gathered-set (λ (w : Worker g.row.Acc.Denot g.row.Del.Denot). w.done.items) c.loop-at.workers at _ was (omega (arith, low, n)) refl ∙ inv.outcomes;
      stopped = keys-set (λ (w : Worker g.row.Acc.Denot g.row.Del.Denot). w.stopped) c.loop-at.workers at _ was (omega (arith, low, n)) refl ∙ inv.stopped;
    }
