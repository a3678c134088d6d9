-- Threads may share a service, and what makes its changes.
use denote.RattleType.{RattleType}
use denote.Ref.{NamedLft}
use denote.Param.Send.{IsSend, IsSync, sendable}
use Rattle.std.specs.declared.sync.ledger.Ledger.{Ghosts}
use Rattle.std.proofs.Crossing.{crosses}
use Rattle.std.specs.contracts.sync.atomic.AtomicU64 as AtomicU64
use Rattle.df_value.proofs.schema.Schema.TheSendSync as schema
use Rattle.df_value.proofs.text.Text.TheSendSync as text
use Rattle.df_versions.specs.declared.history.Naming.{Ghosts as Names}
use Rattle.df_hall.proofs.Crosses.{hall_sync}
use Rattle.dataframes.proofs.Crosses.{locked_books_sync, seat_sync}
use Rattle.dataframes.proofs.CrossesTables.{schemas_sync}
use Rattle.dataframes.specs.contracts.changing.LockedBooks as Changes
use Rattle.dataframes.specs.contracts.changing.LockedBooks.TheInside as ChangesInside
use Rattle.dataframes.specs.contracts.hall_changes.RunningHall as Running
use Rattle.dataframes.specs.contracts.service.OpenService as Service
use Rattle.dataframes.specs.contracts.service.OpenService.TheInside as ServiceInside

number_sync : IsSync AtomicU64.the_row
number_sync = search (sendable, crosses) depth 20

module _ (l : NamedLft) (M J : RattleType) (j : Names J.Denot) where
  service_inside_sync : IsSync M → IsSend J → IsSync (ServiceInside.the_row l M J j)
  service_inside_sync m n =
      let s = schemas_sync in
      let w = seat_sync J j n in
      let u = number_sync in
      let c = schema.the_sync in
      let t = text.the_sync in
      search (sendable, crosses) depth 30

  pub service_sync : IsSync M → IsSend J → IsSync (Service.the_row l M J j)
  service_sync m n = let i = service_inside_sync m n in search sendable depth 20

module _ (l : NamedLft) (R H A D J : RattleType) (a : Ghosts A.Denot) (d : Ghosts D.Denot) (j : Names J.Denot) where
  changes_inside_sync : IsSync R → IsSync H → IsSync (ChangesInside.the_row l R H A D J a d j)
  changes_inside_sync r h =
      let b = locked_books_sync A D J a d j in
      let s = schemas_sync in
      search (sendable, crosses) depth 30

  pub changes_sync : IsSync R → IsSync H → IsSync (Changes.the_row l R H A D J a d j)
  changes_sync r h = let i = changes_inside_sync r h in search sendable depth 20

-- what a hall answers
module _ (l : NamedLft) (R A D J : RattleType) (a : Ghosts A.Denot) (d : Ghosts D.Denot) (j : Names J.Denot) where
  pub running_sync : IsSync R → IsSync (Running.the_field l R A D J j a d).row
  running_sync r = let h = hall_sync A D J a d j in search (sendable, crosses) depth 30
