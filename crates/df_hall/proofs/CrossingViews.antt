-- A live view, and what it stages, may go to another thread.
use denote.RattleType.{RattleType}
use denote.Param.Send.{IsSend, IsSync, sendable}
use Rattle.std.proofs.Crossing.{crosses}
use Rattle.std.specs.contracts.boxed.Box as Box
use Rattle.std.specs.contracts.alloc.Global as Global
use Rattle.std.specs.contracts.impls.GlobalAllocator.TheImpl.{ghosts}
use Rattle.df_value.proofs.list.List.TheSendSync as list
use Rattle.df_value.proofs.row.Row.TheSendSync as row
use Rattle.df_value.proofs.shared.Shared.TheSendSync as shared
use Rattle.df_column.proofs.Crossing.{table_send, table_sync}
use Rattle.df_column.specs.contracts.entry.Entry as Entry
use Rattle.df_delta.specs.contracts.delta.Delta as Delta
use Rattle.df_delta.specs.contracts.delta.Delta.TheInside as DeltaInside
use Rattle.df_nodes.specs.contracts.window.LiveWindow as LiveWindow
use Rattle.df_nodes.specs.contracts.sum.LiveSum as LiveSum
use Rattle.df_nodes.specs.contracts.changed_tables.ChangedTables as ChangedTables
use Rattle.df_live.specs.contracts.operator.LiveOperator as LiveOperator
use Rattle.df_live.specs.contracts.operator.StagedOperator as StagedOperator
use Rattle.df_live.specs.contracts.joined.JoinOperator as JoinOperator
use Rattle.df_live.specs.contracts.tree.LiveTree as LiveTree
use Rattle.df_live.specs.contracts.tree.StagedTree as StagedTree
use Rattle.df_live.specs.contracts.view.LiveView as LiveView
use Rattle.df_live.specs.contracts.view.StagedView as StagedView
use Rattle.df_live.proofs.tree.LiveTree.TheLaws.TheKnot as tree
use Rattle.df_live.proofs.tree.StagedTree.TheLaws.TheKnot as staged_tree
use Rattle.df_hall.proofs.CrossingPlans.{checked_send}
use Rattle.df_hall.proofs.CrossingNodes.{filter_send, map_send, rank_send, staged_rank_send, group_send, staged_groups_send, join_send, staged_join_send}

box_send : (R : RattleType) → IsSend R → IsSend (Box.the_row R Global.the_row ghosts)
box_send R s = search (sendable, crosses) depth 20

window_send : IsSend (LiveWindow.the_field).row
window_send = search (sendable, crosses, list.the_send, table_send) depth 40

sum_send : IsSend (LiveSum.the_field).row
sum_send = search (sendable, crosses, list.the_send, table_send) depth 40

operator_send : IsSend (LiveOperator.the_field).row
operator_send = let f = filter_send in let m = map_send in let w = window_send in let s = sum_send in let r = rank_send in let g = group_send in search (sendable, crosses) depth 40

join_operator_send : IsSend (JoinOperator.the_field).row
join_operator_send = let j = join_send in search (sendable, crosses) depth 40

tree_field_send : IsSend (LiveTree.the_field).row
tree_field_send = tree.send-LiveTree (search sendable depth 20) box_send operator_send join_operator_send

-- changes that are kept: an Arc crosses where its contents both cross and may be shared
entry_send : IsSend (Entry.the_field).row
entry_send = search (sendable, crosses, row.the_send) depth 20

entry_sync : IsSync (Entry.the_field).row
entry_sync = search (sendable, crosses, row.the_sync) depth 20

delta_inside_send : IsSend DeltaInside.the_row
delta_inside_send = let e = entry_send in search (sendable, crosses, table_send, table_sync) depth 40

delta_inside_sync : IsSync DeltaInside.the_row
delta_inside_sync = let e = entry_sync in search (sendable, crosses, table_send, table_sync) depth 40

delta_send : IsSend Delta.the_row
delta_send = let i = delta_inside_send in search sendable depth 20

delta_sync : IsSync Delta.the_row
delta_sync = let i = delta_inside_sync in search sendable depth 20

pub live_send : IsSend (LiveView.the_field).row
live_send = let t = tree_field_send in let c = checked_send in let d = delta_send in let e = delta_sync in search (sendable, crosses, shared.the_send, table_send) depth 40

tables_send : IsSend (ChangedTables.the_field).row
tables_send = search (sendable, crosses, table_send) depth 40

staged_operator_send : IsSend (StagedOperator.the_field).row
staged_operator_send = let t = tables_send in let r = staged_rank_send in let g = staged_groups_send in search (sendable, crosses) depth 40

staged_tree_send : IsSend (StagedTree.the_field).row
staged_tree_send = staged_tree.send-StagedTree box_send staged_operator_send staged_join_send

pub staged_send : IsSend (StagedView.the_field).row
staged_send = let t = staged_tree_send in let d = delta_send in let e = delta_sync in search (sendable, crosses, shared.the_send, table_send) depth 40
