-- What a node of one input is, by its kind. These words are sealed, so that a proof about trees does not look into them.
use Rattle.df_expr.specs.declared.meter.Meter.{Meter}
use Rattle.df_column.specs.Tables.{TaggedRows}
use Rattle.df_nodes.specs.contracts.filter.LiveFilterLiveNode.TheImpl.{ghosts as filter_node}
use Rattle.df_nodes.specs.contracts.map.LiveMapLiveNode.TheImpl.{ghosts as map_node}
use Rattle.df_nodes.specs.contracts.window.LiveWindowLiveNode.TheImpl.{ghosts as window_node}
use Rattle.df_nodes.specs.contracts.sum.LiveSumLiveNode.TheImpl.{ghosts as sum_node}
use Rattle.df_ranks.specs.contracts.rank.LiveRankLiveNode.TheImpl.{ghosts as rank_node}
use Rattle.df_group.specs.contracts.live_group.LiveGroupLiveNode.TheImpl.{ghosts as group_node}
use Rattle.df_live.specs.declared.operator.LiveOperator.{LiveOperator}
use Rattle.df_live.specs.declared.operator.LiveOperator.TheVariants as operator
use Rattle.df_live.specs.declared.operator.StagedOperator.{StagedOperator}
use Rattle.df_live.specs.declared.operator.StagedOperator.TheVariants as staged

-- the operator takes this input
unfoldable pub operator_takes : LiveOperator → TaggedRows → Type 0
operator_takes (operator.Filter n) t = filter_node.Takes n t
operator_takes (operator.Map n) t = map_node.Takes n t
operator_takes (operator.Window n) t = window_node.Takes n t
operator_takes (operator.Sum n) t = sum_node.Takes n t
operator_takes (operator.Rank n) t = rank_node.Takes n t
operator_takes (operator.Group n) t = group_node.Takes n t

-- the node stands over this input
unfoldable pub is_operator_over : LiveOperator → TaggedRows → Type 0
is_operator_over (operator.Filter n) t = filter_node.IsOver n t
is_operator_over (operator.Map n) t = map_node.IsOver n t
is_operator_over (operator.Window n) t = window_node.IsOver n t
is_operator_over (operator.Sum n) t = sum_node.IsOver n t
is_operator_over (operator.Rank n) t = rank_node.IsOver n t
is_operator_over (operator.Group n) t = group_node.IsOver n t

-- what the operator gives of an input
unfoldable pub operator_output : LiveOperator → TaggedRows → TaggedRows
operator_output (operator.Filter n) t = filter_node.output n t
operator_output (operator.Map n) t = map_node.output n t
operator_output (operator.Window n) t = window_node.output n t
operator_output (operator.Sum n) t = sum_node.output n t
operator_output (operator.Rank n) t = rank_node.output n t
operator_output (operator.Group n) t = group_node.output n t

-- what was staged is such that a commit may put it in place
unfoldable pub has_operator_room : LiveOperator → StagedOperator → Type 0
has_operator_room (operator.Filter n) (staged.Filter s) = filter_node.HasRoomFor n s
has_operator_room (operator.Map n) (staged.Map s) = map_node.HasRoomFor n s
has_operator_room (operator.Window n) (staged.Window s) = window_node.HasRoomFor n s
has_operator_room (operator.Sum n) (staged.Sum s) = sum_node.HasRoomFor n s
has_operator_room (operator.Rank n) (staged.Rank s) = rank_node.HasRoomFor n s
has_operator_room (operator.Group n) (staged.Group s) = group_node.HasRoomFor n s
has_operator_room _ _ = ⊥

-- a commit of what was staged leads to this input
unfoldable pub operator_leads : LiveOperator → StagedOperator → TaggedRows → Type 0
operator_leads (operator.Filter n) (staged.Filter s) t = filter_node.LeadsTo n s t
operator_leads (operator.Map n) (staged.Map s) t = map_node.LeadsTo n s t
operator_leads (operator.Window n) (staged.Window s) t = window_node.LeadsTo n s t
operator_leads (operator.Sum n) (staged.Sum s) t = sum_node.LeadsTo n s t
operator_leads (operator.Rank n) (staged.Rank s) t = rank_node.LeadsTo n s t
operator_leads (operator.Group n) (staged.Group s) t = group_node.LeadsTo n s t
operator_leads _ _ t = ⊥

-- no prepare counts more
unfoldable pub operator_budget : LiveOperator → Meter
operator_budget (operator.Filter n) = filter_node.budget n
operator_budget (operator.Map n) = map_node.budget n
operator_budget (operator.Window n) = window_node.budget n
operator_budget (operator.Sum n) = sum_node.budget n
operator_budget (operator.Rank n) = rank_node.budget n
operator_budget (operator.Group n) = group_node.budget n

-- what a prepare may count, by the inputs before and after
unfoldable pub operator_allowed : LiveOperator → TaggedRows → TaggedRows → Meter
operator_allowed (operator.Filter n) t u = filter_node.allowed n t u
operator_allowed (operator.Map n) t u = map_node.allowed n t u
operator_allowed (operator.Window n) t u = window_node.allowed n t u
operator_allowed (operator.Sum n) t u = sum_node.allowed n t u
operator_allowed (operator.Rank n) t u = rank_node.allowed n t u
operator_allowed (operator.Group n) t u = group_node.allowed n t u
