-- The rows of a join key may go to another thread.
use denote.Param.Send.{IsSend, IsSync, sendable}
use Rattle.std.proofs.Crossing.{crosses}
use Rattle.df_value.proofs.row.Row.TheSendSync as row
use Rattle.df_value.proofs.schema.Schema.TheSendSync as schema
use Rattle.df_value.proofs.shared.Shared.TheSendSync as shared
use Rattle.df_tree.proofs.Crossing.{seq_send}
use Rattle.df_join.specs.contracts.tree_table.TreeTable as TreeTable
use Rattle.df_join.specs.contracts.tree_table.tagged_row.GreatestTag as GreatestTag
use Rattle.df_join.specs.contracts.tree_table.tagged_row.GreatestTagMonoid.TheImpl as tag_monoid
use Rattle.df_join.specs.contracts.tree_table.tagged_row.TaggedRow as TaggedRow
use Rattle.df_join.specs.contracts.tree_table.tagged_row.TaggedRowItem.TheImpl as row_item

tagged_send : IsSend TaggedRow.the_row
tagged_send = search (sendable, crosses, row.the_send) depth 20

tagged_sync : IsSync TaggedRow.the_row
tagged_sync = search (sendable, crosses, row.the_sync) depth 20

greatest_send : IsSend GreatestTag.the_row
greatest_send = search (sendable, crosses) depth 20

greatest_sync : IsSync GreatestTag.the_row
greatest_sync = search (sendable, crosses) depth 20

pub tree_table_send : IsSend (TreeTable.the_field).row
tree_table_send =
    let s = seq_send TaggedRow.the_row GreatestTag.the_row row_item.ghosts tag_monoid.ghosts tagged_send tagged_sync greatest_send greatest_sync in
    search (sendable, crosses, shared.the_send, schema.the_send, schema.the_sync) depth 20
