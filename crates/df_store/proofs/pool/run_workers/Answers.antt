use denote.Param.{param}
use denote.Param.Send.{sendable}
use Rattle.std.proofs.Crossing.{crosses}
use Rattle.df_state.proofs.desk.Desk.TheSendSync as desk
use Rattle.df_claims.proofs.claims.ClaimSeat.TheSendSync as seat
use Rattle.df_jobs.proofs.CrossingOutcomes.{outcome_send}
use Rattle.df_jobs.proofs.worker.Work.TheSendSync as shared
use Rattle.std.proofs.Common.{rules}
use Rattle.df_jobs.proofs.CountFacts.{all-counted}
use Rattle.df_jobs.proofs.WorkerFacts.{same-desks}
use Rattle.df_store.proofs.Crosses.{hall_sync}
use Rattle.df_store.proofs.pool.run_workers.Goals as goal

pub for_each_mut-requires-send-T : goal.for_each_mut-requires-send-T
for_each_mut-requires-send-T g c κs within =
    let o = outcome_send in
    let b = c.type_bounds in
    search (sendable, crosses, desk.the_send, seat.the_send) depth 40

pub for_each_mut-requires-sync-F : goal.for_each_mut-requires-sync-F
for_each_mut-requires-sync-F g c κs within =
    let hall = hall_sync (param 0 g.row.Acc) (param 1 g.row.Del) (param 2 g.row.J) (param 3 g.row.B) g.Acc.Ledger g.Del.Ledger g.J.Naming g.B.Beginning in
    let b = c.type_bounds in
    search (sendable, shared.the_sync) depth 20

pub returns-clause-desks : goal.returns-clause-desks
returns-clause-desks g c =
    same-desks c.args.workers.now c.for_each_mut.new.s c.for_each_mut.auto.s (λ i d h. let each = c.for_each_mut.ensures i d h in search rules)

pub returns-clause-counted : goal.returns-clause-counted
returns-clause-counted g c =
    all-counted c.args.workers.now c.for_each_mut.new.s c.for_each_mut.auto.s (λ i d h. let each = c.for_each_mut.ensures i d h in search rules)
