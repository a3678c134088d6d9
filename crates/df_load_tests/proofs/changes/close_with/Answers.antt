use denote.Exit.{no}
use denote.Param.Send.{IsSend, arg_send, param_send, sendable}
use denote.RattleType.{RattleType}
use denote.Struct.Tuple.{TupleAt}
use Rattle.std.proofs.Common.{ℕ, List, [], ◌∷◌}
use Rattle.std.proofs.Crossing.{crosses}
use Rattle.df_versions.proofs.Crosses.{reader_send}
use Rattle.df_hall.proofs.CrossingPlans.{checked_send}
use Rattle.df_load_tests.specs.contracts.watching.Watcher as Watcher
use Rattle.df_load_tests.proofs.changes.close_with.Goals as goal

watcher_send : IsSend Watcher.the_row
watcher_send = let reader = reader_send in let plan = checked_send in search (sendable, crosses) depth 40

one_send : (name : List ℕ) (A : RattleType) → IsSend A → IsSend (TupleAt name (A ∷ []))
one_send name A a = search sendable depth 20

pub join-watcher-requires-send-F : goal.join-watcher-requires-send-F
join-watcher-requires-send-F g c κs within = param_send 1 _ (arg_send _ no _ (one_send _ _ watcher_send))

pub join-watcher-requires-send-A : goal.join-watcher-requires-send-A
join-watcher-requires-send-A g c κs within = param_send 3 _ (arg_send _ no _ watcher_send)
