-- Threads may share a hall: its catalogue and what publishes its versions may go to another thread, and a lock is shared
-- where its contents may go.
use denote.RattleType.{RattleType}
use denote.Param.Send.{IsSend, IsSync, sendable}
use Rattle.std.specs.declared.sync.ledger.Ledger.{Ghosts}
use Rattle.std.proofs.Crossing.{crosses}
use Rattle.std.proofs.sync.ledger.Book.TheSendSync as book
use Rattle.std.proofs.sync.ledger.Share.TheSendSync as share
use Rattle.df_value.proofs.text.Text.TheSendSync as text
use Rattle.df_column.proofs.Crossing.{table_send}
use Rattle.df_catalogue.specs.contracts.staging.StagedFrame as StagedFrame
use Rattle.df_catalogue.specs.contracts.staging.Staging as Staging
use Rattle.df_catalogue.specs.contracts.views.View as View
use Rattle.df_catalogue.specs.contracts.catalogue.Catalogue as Catalogue
use Rattle.df_frame.specs.contracts.frame.Frame as Frame
use Rattle.df_frame.specs.contracts.frame.Frame.TheInside as FrameInside
use Rattle.df_frame.proofs.ranges.Ranges.TheSendSync as ranges
use Rattle.df_versions.specs.declared.history.Naming.{Ghosts as Names}
use Rattle.df_versions.proofs.Crosses.{publisher_send}
use Rattle.df_hall.specs.contracts.versioned.VersionedCatalogue as Versioned
use Rattle.df_hall.specs.contracts.versioned.VersionedCatalogue.TheInside as VersionedInside
use Rattle.df_hall.specs.contracts.hall.Hall as Hall
use Rattle.df_hall.proofs.CrossingViews.{live_send, staged_send}

-- a frame
frame_inside_send : IsSend FrameInside.the_row
frame_inside_send = search (sendable, crosses, ranges.the_send, table_send) depth 40

frame_send : IsSend Frame.the_row
frame_send = let i = frame_inside_send in search sendable depth 20

view_send : IsSend (View.the_field).row
view_send = let l = live_send in search (sendable, crosses, text.the_send) depth 20

-- a change that is staged
staged_frame_send : IsSend (StagedFrame.the_field).row
staged_frame_send = let s = staged_send in let f = frame_send in search (sendable, crosses) depth 40

staging_send : IsSend (Staging.the_field).row
staging_send = let f = staged_frame_send in let v = view_send in search (sendable, crosses) depth 40

module _ (A D : RattleType) (a : Ghosts A.Denot) (d : Ghosts D.Denot) where
  pub catalogue_send : IsSend (Catalogue.the_row A D a d)
  catalogue_send = let v = view_send in let s = staging_send in let f = frame_send in search (sendable, crosses, book.the_send, share.the_send) depth 40

module _ (A D J : RattleType) (a : Ghosts A.Denot) (d : Ghosts D.Denot) (j : Names J.Denot) where
  -- what stands behind a lock may go to another thread where its catalogue may
  versioned_inside_send : IsSend (Catalogue.the_row A D a d) → IsSend (VersionedInside.the_row A D J a d j)
  versioned_inside_send c = let p = publisher_send J j in search sendable depth 20

  pub versioned_send : IsSend (Catalogue.the_row A D a d) → IsSend (Versioned.the_row A D J a d j)
  versioned_send c = let i = versioned_inside_send c in search sendable depth 20

  pub hall_sync : IsSync (Hall.the_row A D J j a d)
  hall_sync = let v = versioned_send (catalogue_send A D a d) in search (sendable, crosses) depth 20
