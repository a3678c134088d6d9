-- Tables may go to another thread, and threads may share them.
use denote.Param.Send.{IsSend, IsSync, sendable}
use Rattle.std.proofs.Crossing.{crosses}
use Rattle.df_value.proofs.schema.Schema.TheSendSync as schema
use Rattle.df_tree.proofs.Crossing.{seq_send, seq_sync}
use Rattle.df_column.proofs.leaf.Leaf.TheSendSync as leaf
use Rattle.df_column.proofs.run.Run.TheSendSync as run
use Rattle.df_column.specs.contracts.leaf_totals.Totals as Totals
use Rattle.df_column.specs.contracts.leaf_totals.TotalsMonoid.TheImpl as totals_monoid
use Rattle.df_column.specs.contracts.shared_leaf.SharedLeaf as SharedLeaf
use Rattle.df_column.specs.contracts.shared_leaf.SharedLeaf.TheInside as SharedLeafInside
use Rattle.df_column.specs.contracts.shared_leaf.SharedLeafItem.TheImpl as leaf_item
use Rattle.df_column.specs.contracts.leaf_tree.LeafTree as LeafTree
use Rattle.df_column.specs.contracts.leaf_tree.LeafTree.TheInside as LeafTreeInside
use Rattle.df_column.specs.contracts.leaves.Leaves as Leaves
use Rattle.df_column.specs.contracts.leaves.Leaves.TheInside as LeavesInside
use Rattle.df_column.specs.contracts.block_list.BlockList as BlockList
use Rattle.df_column.specs.contracts.block_list.BlockList.TheInside as BlockListInside
use Rattle.df_column.specs.contracts.table.Table as Table
use Rattle.df_column.specs.contracts.table.Table.TheInside as TableInside

leaf_inside_send : IsSend SharedLeafInside.the_row
leaf_inside_send = search (sendable, crosses, leaf.the_send, leaf.the_sync) depth 20

leaf_inside_sync : IsSync SharedLeafInside.the_row
leaf_inside_sync = search (sendable, crosses, leaf.the_send, leaf.the_sync) depth 20

leaf_send : IsSend SharedLeaf.the_row
leaf_send = let i = leaf_inside_send in search sendable depth 20

leaf_sync : IsSync SharedLeaf.the_row
leaf_sync = let i = leaf_inside_sync in search sendable depth 20

totals_send : IsSend Totals.the_row
totals_send = search sendable depth 20

totals_sync : IsSync Totals.the_row
totals_sync = search sendable depth 20

tree_inside_send : IsSend LeafTreeInside.the_row
tree_inside_send =
    let s = seq_send SharedLeaf.the_row Totals.the_row leaf_item.ghosts totals_monoid.ghosts leaf_send leaf_sync totals_send totals_sync in
    search (sendable, crosses) depth 20

tree_inside_sync : IsSync LeafTreeInside.the_row
tree_inside_sync =
    let s = seq_sync SharedLeaf.the_row Totals.the_row leaf_item.ghosts totals_monoid.ghosts leaf_send leaf_sync totals_send totals_sync in
    search (sendable, crosses) depth 20

tree_send : IsSend LeafTree.the_row
tree_send = let i = tree_inside_send in search sendable depth 20

tree_sync : IsSync LeafTree.the_row
tree_sync = let i = tree_inside_sync in search sendable depth 20

leaves_inside_send : IsSend LeavesInside.the_row
leaves_inside_send = let t = tree_send in search sendable depth 20

leaves_inside_sync : IsSync LeavesInside.the_row
leaves_inside_sync = let t = tree_sync in search sendable depth 20

leaves_send : IsSend Leaves.the_row
leaves_send = let i = leaves_inside_send in search sendable depth 20

leaves_sync : IsSync Leaves.the_row
leaves_sync = let i = leaves_inside_sync in search sendable depth 20

list_inside_send : IsSend BlockListInside.the_row
list_inside_send = let l = leaves_send in search (sendable, run.the_send) depth 20

list_inside_sync : IsSync BlockListInside.the_row
list_inside_sync = let l = leaves_sync in search (sendable, run.the_sync) depth 20

list_send : IsSend BlockList.the_row
list_send = let i = list_inside_send in search sendable depth 20

list_sync : IsSync BlockList.the_row
list_sync = let i = list_inside_sync in search sendable depth 20

table_inside_send : IsSend TableInside.the_row
table_inside_send = let l = list_send in search (sendable, crosses, schema.the_send, schema.the_sync) depth 20

table_inside_sync : IsSync TableInside.the_row
table_inside_sync = let l = list_sync in search (sendable, crosses, schema.the_send, schema.the_sync) depth 20

pub table_send : IsSend Table.the_row
table_send = let i = table_inside_send in search sendable depth 20

pub table_sync : IsSync Table.the_row
table_sync = let i = table_inside_sync in search sendable depth 20
