use denote.Param.{param}
use denote.Ref.{NamedLft}
use denote.Param.Send.{sendable}
use denote.RattleType.{RattleType}
use Rattle.dataframes.proofs.CrossesService.{changes_sync, running_sync}
use Rattle.dataframes.proofs.opening.serve_workers.Goals as goal

pub run_threads-workers-requires-sync-M : goal.run_threads-workers-requires-sync-M
run_threads-workers-requires-sync-M g c κs within =
    let b = c.type_bounds in
    let hall = λ (l : NamedLft). running_sync l (param 3 g.row.R) (param 0 g.row.Acc) (param 1 g.row.Del) (param 2 g.row.J) g.Acc.Ledger g.Del.Ledger g.J.Naming b.sync-R in
    let changes = λ (l : NamedLft) (H : RattleType). changes_sync l (param 3 g.row.R) H (param 0 g.row.Acc) (param 1 g.row.Del) (param 2 g.row.J) g.Acc.Ledger g.Del.Ledger g.J.Naming b.sync-R in
    search (sendable, hall, changes) depth 20
