-- What of versions may go to another thread, and what threads may share.
use denote.RattleType.{RattleType}
use denote.Param.Send.{IsSend, IsSync, sendable}
use Rattle.std.proofs.Crossing.{crosses}
use Rattle.logbook.proofs.word.Word.TheSendSync as word
use Rattle.logbook.proofs.tokens.Seen.TheSendSync as seen
use Rattle.left_right.proofs.part.Part.TheSendSync as part
use Rattle.left_right.proofs.part.Deed.TheSendSync as deed
use Rattle.atomic_table.proofs.send_lease.SendLease.TheSendSync as lease
use Rattle.atomic_table.proofs.shared.Seat.TheSendSync as seat
use Rattle.atomic_table.proofs.shared.Shared.TheSendSync as shared
use Rattle.df_value.proofs.text.Text.TheSendSync as text
use Rattle.df_column.proofs.Crossing.{table_send, table_sync}
use Rattle.df_versions.specs.declared.history.Naming.{Ghosts as Names}
use Rattle.df_versions.specs.contracts.history.History as History
use Rattle.df_versions.specs.contracts.history.History.TheInside as HistoryInside
use Rattle.df_versions.specs.contracts.reader.Reader as Reader
use Rattle.df_versions.specs.contracts.reader.Reader.TheInside as ReaderInside
use Rattle.df_versions.specs.contracts.told.Told as Told
use Rattle.df_versions.specs.contracts.told.Told.TheInside as ToldInside
use Rattle.df_versions.specs.contracts.version.Version as Version
use Rattle.df_versions.specs.contracts.publisher.Publisher as Publisher
use Rattle.df_versions.specs.contracts.publisher.Publisher.TheInside as PublisherInside
use Rattle.df_versions.specs.contracts.version.Published as Published

pub version_send : IsSend Version.the_row
version_send = search (sendable, crosses, text.the_send, table_send) depth 40

pub version_sync : IsSync Version.the_row
version_sync = search (sendable, crosses, text.the_sync, table_sync) depth 40

history_inside_send : IsSend HistoryInside.the_row
history_inside_send = search (sendable, seen.the_send) depth 20

history_inside_sync : IsSync HistoryInside.the_row
history_inside_sync = search (sendable, seen.the_sync) depth 20

pub history_send : IsSend History.the_row
history_send = let i = history_inside_send in search sendable depth 20

pub history_sync : IsSync History.the_row
history_sync = let i = history_inside_sync in search sendable depth 20

published_send : IsSend Published.the_row
published_send = let v = version_send in let w = version_sync in let h = history_send in search (sendable, crosses) depth 40

published_sync : IsSync Published.the_row
published_sync = let v = version_send in let w = version_sync in let h = history_sync in search (sendable, crosses) depth 40

module _ (J : RattleType) (j : Names J.Denot) where
  told_inside_send : IsSend (ToldInside.the_row J j)
  told_inside_send = let h = history_send in search (sendable, crosses) depth 40

  pub told_send : IsSend (Told.the_row J j)
  told_send = let i = told_inside_send in search sendable depth 20

reader_inside_send : IsSend ReaderInside.the_row
reader_inside_send = let h = history_send in let p = published_send in let q = published_sync in
    search (sendable, crosses, part.the_send, seat.the_send, lease.the_send, lease.the_sync, shared.the_send, shared.the_sync) depth 60

pub reader_send : IsSend Reader.the_row
reader_send = let i = reader_inside_send in search sendable depth 20

-- what publishes versions may go to another thread
module _ (J : RattleType) (j : Names J.Denot) where
  publisher_inside_send : IsSend (PublisherInside.the_row J j)
  publisher_inside_send = let h = history_send in let p = published_send in let q = published_sync in
      search (sendable, crosses, part.the_send, deed.the_send, word.the_send, seat.the_send, lease.the_send, lease.the_sync, shared.the_send, shared.the_sync) depth 60

  pub publisher_send : IsSend (Publisher.the_row J j)
  publisher_send = let i = publisher_inside_send in search sendable depth 20
