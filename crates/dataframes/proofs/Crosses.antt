-- The books of a service and its dashboards may go to another thread, and threads may share what holds them.
use denote.RattleType.{RattleType}
use denote.Param.Send.{IsSend, IsSync, sendable}
use Rattle.std.specs.contracts.sync.Mutex as Mutex
use Rattle.std.specs.declared.sync.ledger.Ledger.{Ghosts}
use Rattle.std.proofs.Crossing.{crosses}
use Rattle.std.proofs.sync.ledger.Share.TheSendSync as share
use Rattle.df_value.proofs.schema.Schema.TheSendSync as schema
use Rattle.df_versions.specs.declared.history.Naming.{Ghosts as Names}
use Rattle.df_versions.proofs.Crosses.{reader_send, told_send}
use Rattle.dataframes.specs.contracts.books.Books as Books
use Rattle.dataframes.specs.contracts.books.Books.TheInside as BooksInside
use Rattle.dataframes.specs.contracts.dashboard.Dashboard as Dashboard
use Rattle.dataframes.specs.contracts.dashboard.Dashboard.TheInside as DashboardInside

module _ (J : RattleType) (j : Names J.Denot) where
  dashboard_inside_send : IsSend J → IsSend (DashboardInside.the_row J j)
  dashboard_inside_send s = let r = reader_send in search (sendable, crosses, schema.the_send) depth 40 fits 50000

  pub dashboard_send : IsSend J → IsSend (Dashboard.the_row J j)
  dashboard_send s = let i = dashboard_inside_send s in search sendable depth 20

  pub seat_sync : IsSend J → IsSync (Mutex.the_row (Dashboard.the_row J j))
  seat_sync s = let d = dashboard_send s in search (sendable, crosses) depth 20

module _ (A D J : RattleType) (a : Ghosts A.Denot) (d : Ghosts D.Denot) (j : Names J.Denot) where
  books_inside_send : IsSend (BooksInside.the_row A D J a d j)
  books_inside_send = let t = told_send J j in search (sendable, crosses, share.the_send, schema.the_send) depth 40

  pub books_send : IsSend (Books.the_row A D J a d j)
  books_send = let i = books_inside_send in search sendable depth 20

  pub locked_books_sync : IsSync (Mutex.the_row (Books.the_row A D J a d j))
  locked_books_sync = let b = books_send in search (sendable, crosses) depth 20
