-- What the node of two inputs is. These words are sealed, so that a proof about trees does not look into them.
use Rattle.df_expr.specs.declared.meter.Meter.{Meter}
use Rattle.df_column.specs.Tables.{TaggedRows}
use Rattle.df_join.specs.contracts.join.LiveJoinTwoSidedNode.TheImpl.{ghosts as join_node}
use Rattle.df_join.specs.declared.join.StagedJoin.{StagedJoin}
use Rattle.df_live.specs.declared.joined.JoinOperator.{JoinOperator}

-- the join takes these inputs
unfoldable pub join_takes : JoinOperator → TaggedRows → TaggedRows → Type 0
join_takes j l r = join_node.Takes j.join l r

-- the node stands over these inputs
unfoldable pub is_join_over : JoinOperator → TaggedRows → TaggedRows → Type 0
is_join_over j l r = join_node.IsOver j.join l r

-- what the join gives of two inputs
unfoldable pub join_gives : JoinOperator → TaggedRows → TaggedRows → TaggedRows
join_gives j l r = join_node.output j.join l r

-- what was staged is such that a commit may put it in place
unfoldable pub has_join_room : JoinOperator → StagedJoin → Type 0
has_join_room j s = join_node.HasRoomFor j.join s

-- a commit of what was staged leads to these inputs
unfoldable pub join_leads : JoinOperator → StagedJoin → TaggedRows → TaggedRows → Type 0
join_leads j s l r = join_node.LeadsTo j.join s l r

-- no prepare counts more
unfoldable pub join_budget : JoinOperator → Meter
join_budget j = join_node.budget j.join

-- what a prepare may count, by the left input before and after, and the right one
unfoldable pub join_allowed : JoinOperator → TaggedRows → TaggedRows → TaggedRows → TaggedRows → Meter
join_allowed j l m r s = join_node.allowed j.join l m r s
