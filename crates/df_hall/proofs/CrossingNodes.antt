-- The live nodes, and what they stage, may go to another thread.
use denote.Param.Send.{IsSend, sendable}
use Rattle.std.proofs.Crossing.{crosses}
use Rattle.df_value.proofs.list.List.TheSendSync as list
use Rattle.df_value.proofs.row.Row.TheSendSync as row
use Rattle.df_value.proofs.schema.Schema.TheSendSync as schema
use Rattle.df_value.proofs.text.Text.TheSendSync as text
use Rattle.df_column.proofs.Crossing.{table_send}
use Rattle.df_counts.proofs.Crossing.{counts_send}
use Rattle.df_join.proofs.Crossing.{tree_table_send}
use Rattle.df_ops.proofs.agg.Agg.TheSendSync as agg
use Rattle.df_nodes.specs.contracts.row_operator.RowOperator as RowOperator
use Rattle.df_nodes.specs.contracts.filter.LiveFilter as LiveFilter
use Rattle.df_nodes.specs.contracts.map.LiveMap as LiveMap
use Rattle.df_ranks.specs.contracts.column.RankColumn as RankColumn
use Rattle.df_ranks.specs.contracts.rank.LiveRank as LiveRank
use Rattle.df_ranks.specs.contracts.rank.StagedRank as StagedRank
use Rattle.df_group.specs.contracts.total.Total as Total
use Rattle.df_group.specs.contracts.group.Group as Group
use Rattle.df_group.specs.contracts.grouping.Grouping as Grouping
use Rattle.df_group.specs.contracts.live_group.LiveGroup as LiveGroup
use Rattle.df_group.specs.contracts.live_group.StagedGroups as StagedGroups
use Rattle.df_join.specs.contracts.keyed.KeyedTables as KeyedTables
use Rattle.df_join.specs.contracts.members.Members as Members
use Rattle.df_join.specs.contracts.rule.JoinRule as JoinRule
use Rattle.df_join.specs.contracts.join.LiveJoin as LiveJoin
use Rattle.df_join.specs.contracts.join.StagedJoin as StagedJoin
use Rattle.df_hall.proofs.CrossingPlans.{pair_send, physical_field_send, physical_send}

operator_send : IsSend (RowOperator.the_field).row
operator_send = let p = physical_send in let f = physical_field_send in search (sendable, crosses, list.the_send) depth 20

pub filter_send : IsSend (LiveFilter.the_field).row
filter_send = let o = operator_send in search (sendable, crosses) depth 40

pub map_send : IsSend (LiveMap.the_field).row
map_send = let o = operator_send in search (sendable, crosses) depth 40

column_send : IsSend (RankColumn.the_field).row
column_send = search (sendable, crosses, schema.the_send, text.the_send) depth 40

pub rank_send : IsSend (LiveRank.the_field).row
rank_send = let c = counts_send in let k = column_send in search (sendable, crosses, table_send) depth 40

pub staged_rank_send : IsSend (StagedRank.the_field).row
staged_rank_send = let c = counts_send in search (sendable, crosses, table_send) depth 40

total_send : IsSend (Total.the_field).row
total_send = let c = counts_send in search (sendable, crosses) depth 40

member_send : IsSend (Group.the_field).row
member_send = let t = total_send in search (sendable, crosses, list.the_send, table_send, row.the_send) depth 40

grouping_send : IsSend (Grouping.the_field).row
grouping_send = let p = pair_send in search (sendable, crosses, list.the_send, schema.the_send, text.the_send, agg.the_send) depth 40

pub group_send : IsSend (LiveGroup.the_field).row
group_send = let m = member_send in let g = grouping_send in search (sendable, crosses, row.the_send) depth 40

pub staged_groups_send : IsSend (StagedGroups.the_field).row
staged_groups_send = let m = member_send in search (sendable, crosses, row.the_send) depth 40

keyed_send : IsSend (KeyedTables.the_field).row
keyed_send = let t = tree_table_send in search (sendable, crosses, row.the_send) depth 20

members_send : IsSend (Members.the_field).row
members_send = let t = tree_table_send in let k = keyed_send in search (sendable, crosses) depth 40

rule_send : IsSend (JoinRule.the_field).row
rule_send = search (sendable, crosses, list.the_send) depth 40

pub join_send : IsSend (LiveJoin.the_field).row
join_send = let m = members_send in let r = rule_send in search (sendable, crosses) depth 40

pub staged_join_send : IsSend (StagedJoin.the_field).row
staged_join_send = let k = keyed_send in search (sendable, crosses) depth 40
