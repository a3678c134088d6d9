use denote.Exit.{no}
use denote.Param.{param}
use denote.Param.Send.{IsSend, arg_send, param_send, sendable, shr_send}
use denote.RattleType.{RattleType}
use denote.Struct.Tuple.{TupleAt}
use Rattle.std.proofs.Common.{ℕ, List, [], ◌∷◌}
use Rattle.std.proofs.Crossing.{Vec-send}
use Rattle.dataframes.proofs.CrossesService.{service_sync}
use Rattle.dataframes.proofs.threads.run_threads.Goals as goal

three_send : (name : List ℕ) (A B C : RattleType) → IsSend A → IsSend B → IsSend C → IsSend (TupleAt name (A ∷ (B ∷ (C ∷ []))))
three_send name A B C a b c = search sendable depth 20

pub join-watchers-requires-send-F : goal.join-watchers-requires-send-F
join-watchers-requires-send-F g c κs within =
    let b = c.type_bounds in
    let service = service_sync _ (param 0 g.row.M) (param 1 g.row.J) g.J.Naming b.sync-M b.send-J in
    param_send 1 _
    (arg_send _ no _
    (three_send _ _ _ _ (shr_send _ _ (param 2 g.row.R) b.sync-R) (shr_send _ _ _ service) (Vec-send (param 4 g.row.W) b.send-W)))
