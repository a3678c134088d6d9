use denote.Param.{param}
use denote.Param.Send.{IsSync, sendable}
use Rattle.std.proofs.Crossing.{crosses}
use Rattle.std.proofs.sync.ledger.Share.TheSendSync as share
use Rattle.df_versions.proofs.Crosses.{reader_send}
use Rattle.df_hall.proofs.CrossingPlans.{checked_send}
use Rattle.df_hall.proofs.Crosses.{hall_sync}
use Rattle.std.specs.contracts.sync.atomic.AtomicU64 as AtomicU64
use Rattle.df_load_tests.specs.contracts.watching.Seen as Seen
use Rattle.df_load_tests.proofs.clients.run_actors.Goals as goal

count_sync : IsSync AtomicU64.the_row
count_sync = search (sendable, crosses) depth 20

seen_sync : IsSync Seen.the_row
seen_sync = let count = count_sync in search sendable depth 20

pub for_each_mut-requires-send-T : goal.for_each_mut-requires-send-T
for_each_mut-requires-send-T g c κs within =
    let reader = reader_send in
    let plan = checked_send in
    let b = c.type_bounds in
    search (sendable, crosses, share.the_send) depth 40

pub for_each_mut-requires-sync-F : goal.for_each_mut-requires-sync-F
for_each_mut-requires-sync-F g c κs within =
    let hall = hall_sync (param 0 g.row.Acc) (param 1 g.row.Del) (param 2 g.row.J) g.Acc.Ledger g.Del.Ledger g.J.Naming in
    let seen = seen_sync in
    let b = c.type_bounds in
    search sendable depth 20
