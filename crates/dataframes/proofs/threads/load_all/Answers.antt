use denote.Param.{param}
use denote.Ref.{NamedLft}
use denote.Param.Send.{sendable}
use Rattle.dataframes.proofs.CrossesService.{service_sync}
use Rattle.dataframes.proofs.threads.load_all.Goals as goal

pub for_each_mut-requires-sync-F : goal.for_each_mut-requires-sync-F
for_each_mut-requires-sync-F g c κs within =
    let b = c.type_bounds in
    let service = λ (l : NamedLft). service_sync l (param 0 g.row.M) (param 1 g.row.J) g.J.Naming b.sync-M b.send-J in
    search (sendable, service) depth 20
