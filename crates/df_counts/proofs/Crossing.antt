-- Counts may go to another thread.
use denote.Param.Send.{IsSend, IsSync, sendable}
use Rattle.std.proofs.Crossing.{crosses}
use Rattle.df_value.proofs.cell.Cell.TheSendSync as cell
use Rattle.df_value.proofs.shared.Shared.TheSendSync as shared
use Rattle.df_tree.proofs.Crossing.{seq_send}
use Rattle.df_counts.specs.contracts.counts.Counts as Counts
use Rattle.df_counts.specs.contracts.counts.Entries as Entries
use Rattle.df_counts.specs.contracts.totals.Totals as Totals
use Rattle.df_counts.specs.contracts.totals.TotalsMonoid.TheImpl as totals_monoid
use Rattle.df_counts.specs.contracts.value_count.ValueCount as ValueCount
use Rattle.df_counts.specs.contracts.value_count.ValueCountItem.TheImpl as value_item

value_send : IsSend ValueCount.the_row
value_send = search (sendable, crosses, shared.the_send, cell.the_send, cell.the_sync) depth 20

value_sync : IsSync ValueCount.the_row
value_sync = search (sendable, crosses, shared.the_sync, cell.the_send, cell.the_sync) depth 20

totals_send : IsSend Totals.the_row
totals_send = search sendable depth 20

totals_sync : IsSync Totals.the_row
totals_sync = search sendable depth 20

entries_send : IsSend Entries.the_row
entries_send =
    let s = seq_send ValueCount.the_row Totals.the_row value_item.ghosts totals_monoid.ghosts value_send value_sync totals_send totals_sync in
    search (sendable, crosses) depth 20

pub counts_send : IsSend (Counts.the_field).row
counts_send = let e = entries_send in search (sendable, crosses) depth 20
