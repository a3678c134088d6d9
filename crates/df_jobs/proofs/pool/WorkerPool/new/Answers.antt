use Rattle.std.proofs.Common.{◌∙◌, ap, length, length-set, drop, set, subst, sym, arith}
use Rattle.std.specs.Prelude.{All, vec_capacity}
use Rattle.df_state.specs.Desks.{HaveSameSums}
use Rattle.df_jobs.specs.declared.worker.Worker.{Worker}
use Rattle.df_jobs.specs.Jobs.{chunks_of}
use Rattle.df_jobs.specs.Workers.{IsIdle, desks_of, outcomes_in}
use Rattle.df_state.proofs.ListFacts.{put-back}
use Rattle.df_jobs.proofs.WorkerFacts.{nothing-done, ready-workers, rest-idle, shared-out}
use Rattle.df_jobs.proofs.pool.WorkerPool.new.Goals as goal

pub share_desks-requires-clause-idle : goal.share_desks-requires-clause-idle
share_desks-requires-clause-idle g c =
    let P = IsIdle {A = g.row.Acc.Denot} {D = g.row.Del.Denot} c.args.work.now.claims.now c.args.work.now.desks in
    subst (λ ws. All P (drop 1 ws)) (sym c.as_mut_slice.ensures.value)
    (rest-idle c.args.work.now.claims.now c.args.work.now.desks c.in-Ok.pool.workers.items _ c.in-Ok.ensures.idle)

pub returns-clause-pool : goal.returns-clause-pool
returns-clause-pool g c =
    let ok = c.in-Ok.ensures in
    let pool = c.in-Ok.pool in
    let now = c.share_desks.new.workers in
    let len = c.as_mut_slice.ensures.len in
    let same = c.share_desks.ensures.count in
    let as_many = ap length c.as_mut_slice.ensures.value in
    let many = ok.count in
    let first : Worker g.row.Acc.Denot g.row.Del.Denot =
    record { desks = c.move_desks.new.to; seat = c.index_mut.result.now.seat; done = c.index_mut.result.now.done; stopped = c.index_mut.result.now.stopped } in
    let was = set pool.workers.items 0 first in
    let set_len = length-set pool.workers.items 0 first in
    let back = put-back pool.workers.len now was (omega (arith, same, len)) (omega (arith, as_many, len)) in
    let both = ready-workers c.args.work.now.claims.now c.args.work.now.desks (chunks_of g.S.Source.made g.S.Source.start_of c.args.work.now.sources.now) _ now (length c.args.seats.items)
    (vec_capacity pool.gathered) back c.share_desks.ensures.begun (omega (arith, same, as_many, set_len, many)) ok.room in
    record { workers = both.0; gathered = ok.gathered; room = both.1 }

pub returns-clause-nothing_done : goal.returns-clause-nothing_done
returns-clause-nothing_done g c =
    let pool = c.in-Ok.pool in
    let now = c.share_desks.new.workers in
    let len = c.as_mut_slice.ensures.len in
    let same = c.share_desks.ensures.count in
    let as_many = ap length c.as_mut_slice.ensures.value in
    ap outcomes_in (put-back pool.workers.len now _ (omega (arith, same, len)) (omega (arith, as_many, len)))
    ∙ nothing-done c.args.work.now.claims.now c.args.work.now.desks now c.share_desks.ensures.begun

pub returns-clause-sums : goal.returns-clause-sums
returns-clause-sums g c =
    let ok = c.in-Ok.ensures in
    let pool = c.in-Ok.pool in
    let lent = c.as_mut_slice.ensures.value in
    let now = c.share_desks.new.workers in
    let some = c.requires.some in
    let many = ok.count in
    let len = c.as_mut_slice.ensures.len in
    let same = c.share_desks.ensures.count in
    let as_many = ap length lent in
    subst (λ ws. HaveSameSums c.args.desks.items (desks_of ws)) (sym (put-back pool.workers.len now _ (omega (arith, same, len)) (omega (arith, as_many, len))))
    (shared-out c.args.work.now.claims.now c.args.work.now.desks pool.workers.items c.as_mut_slice.result.now now c.index_mut.result.now _ c.args.desks.items ok.idle (omega (arith, some, many)) c.index_mut.ensures.value
    c.move_desks.ensures.moved lent c.share_desks.ensures.sums)
