use denote.Exit.{no}
use denote.Param.{param}
use denote.Param.Send.{IsSync, arg_sync, param_sync, sendable, shr_sync}
use denote.RattleType.{RattleType}
use denote.Struct.Tuple.{TupleAt}
use Rattle.std.proofs.Common.{ℕ, List, [], ◌∷◌}
use Rattle.dataframes.proofs.CrossesService.{service_sync}
use Rattle.dataframes.proofs.threads.watch_all.Goals as goal

two_sync : (name : List ℕ) (A B : RattleType) → IsSync A → IsSync B → IsSync (TupleAt name (A ∷ (B ∷ [])))
two_sync name A B a b = search sendable depth 20

pub for_each_mut-requires-sync-F : goal.for_each_mut-requires-sync-F
for_each_mut-requires-sync-F g c κs within =
    let b = c.type_bounds in
    let service = service_sync _ (param 0 g.row.M) (param 1 g.row.J) g.J.Naming b.sync-M b.send-J in
    param_sync 2 _
    (arg_sync _ no _
    (two_sync _ _ _ (shr_sync _ _ (param 2 g.row.R) b.sync-R) (shr_sync _ _ _ service)))
