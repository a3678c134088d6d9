-- Threads may share the lock over a catalogue that they load, with what waits for it.
use denote.RattleType.{RattleType}
use denote.Param.Send.{IsSend, IsSync, sendable}
use Rattle.std.specs.declared.sync.ledger.Ledger.{Ghosts}
use Rattle.std.proofs.Crossing.{crosses}
use Rattle.df_versions.specs.declared.history.Naming.{Ghosts as Names}
use Rattle.df_hall.proofs.Crosses.{catalogue_send, versioned_send}
use Rattle.df_store.specs.declared.loading.Beginning.{Ghosts as Beginnings}
use Rattle.df_jobs.proofs.CrossingOutcomes.{joined_send, outcome_send}
use Rattle.df_store.specs.contracts.waiting.Batch as Batch
use Rattle.df_store.specs.contracts.waiting.Waiting as Waiting
use Rattle.df_store.specs.contracts.waiting.Waiting.TheInside as WaitingInside
use Rattle.df_store.specs.contracts.loading.LoadingCatalogue as Loading
use Rattle.df_store.specs.contracts.loading.LoadingHall as LoadingHall
use Rattle.df_store.specs.contracts.loading.LoadingCatalogue.TheInside as LoadingInside

batch_send : IsSend (Batch.the_field).row
batch_send = let o = outcome_send in let j = joined_send in search (sendable, crosses) depth 40

waiting_inside_send : (B : RattleType) (b : Beginnings B.Denot) → IsSend (WaitingInside.the_row B b)
waiting_inside_send B b = let h = batch_send in search (sendable, crosses) depth 40

waiting_send : (B : RattleType) (b : Beginnings B.Denot) → IsSend (Waiting.the_row B b)
waiting_send B b = let i = waiting_inside_send B b in search sendable depth 20

module _ (A D J B : RattleType) (a : Ghosts A.Denot) (d : Ghosts D.Denot) (j : Names J.Denot) (b : Beginnings B.Denot) where
  inside_send : IsSend (LoadingInside.the_row A D J B a d j b)
  inside_send = let v = versioned_send A D J a d j (catalogue_send A D a d) in search (sendable, crosses) depth 20

  -- what stands behind the lock may go to another thread
  loading_send : IsSend (Loading.the_row A D J B a d j b)
  loading_send = let i = inside_send in search sendable depth 20

  pub hall_sync : IsSync (LoadingHall.the_row A D J B a d j b)
  hall_sync = let l = loading_send in let w = waiting_send B b in search (sendable, crosses) depth 20
