use Rattle.std.proofs.Common.{rules}
use Rattle.df_live.proofs.InputChecks.{filter_below, select_below, with_below, group_below, rolling_below, sum_below, rank_below, left_below, right_below}
use Rattle.df_live.proofs.fresh_tree.+fresh.Goals as goal

pub fresh_tree-returns-in-Scan : goal.fresh_tree-returns-in-Scan
fresh_tree-returns-in-Scan t c = c.scan.ensures c.args.schemas.now c.args.plan.now c.in-Scan.is c.in_ok-schema.ensures.value

pub fresh_filter-fresh_tree-requires : goal.fresh_filter-fresh_tree-requires
fresh_filter-fresh_tree-requires t c = (search rules, filter_below _ _ _ _ _ c.requires.plan c.requires.is c.get-below.ensures)

pub fresh_filter-filter_tree-requires-clause-is : goal.fresh_filter-filter_tree-requires-clause-is
fresh_filter-filter_tree-requires-clause-is t c = cc

pub fresh_select-fresh_tree-requires : goal.fresh_select-fresh_tree-requires
fresh_select-fresh_tree-requires t c = (search rules, select_below _ _ _ _ _ c.requires.plan c.requires.is c.get-below.ensures)

pub fresh_select-select_tree-requires-clause-is : goal.fresh_select-select_tree-requires-clause-is
fresh_select-select_tree-requires-clause-is t c = cc

pub fresh_with_columns-fresh_tree-requires : goal.fresh_with_columns-fresh_tree-requires
fresh_with_columns-fresh_tree-requires t c = (search rules, with_below _ _ _ _ _ c.requires.plan c.requires.is c.get-below.ensures)

pub fresh_with_columns-with_columns_tree-requires-clause-is : goal.fresh_with_columns-with_columns_tree-requires-clause-is
fresh_with_columns-with_columns_tree-requires-clause-is t c = cc

pub fresh_group-fresh_tree-requires : goal.fresh_group-fresh_tree-requires
fresh_group-fresh_tree-requires t c = (search rules, group_below _ _ _ _ _ _ c.requires.plan c.requires.is c.get-below.ensures)

pub fresh_group-group_tree-requires-clause-is : goal.fresh_group-group_tree-requires-clause-is
fresh_group-group_tree-requires-clause-is t c = cc

pub fresh_rolling-fresh_tree-requires : goal.fresh_rolling-fresh_tree-requires
fresh_rolling-fresh_tree-requires t c = (search rules, rolling_below _ _ _ _ _ _ _ _ _ c.requires.plan c.requires.is c.get-below.ensures)

pub fresh_sum-fresh_tree-requires : goal.fresh_sum-fresh_tree-requires
fresh_sum-fresh_tree-requires t c = (search rules, sum_below _ _ _ _ _ _ c.requires.plan c.requires.is c.get-below.ensures)

pub fresh_sum-sum_tree-requires-clause-is : goal.fresh_sum-sum_tree-requires-clause-is
fresh_sum-sum_tree-requires-clause-is t c = cc

pub fresh_rank-fresh_tree-requires : goal.fresh_rank-fresh_tree-requires
fresh_rank-fresh_tree-requires t c = (search rules, rank_below _ _ _ _ _ _ _ c.requires.plan c.requires.is c.get-below.ensures)

pub fresh_rank-rank_tree-requires-clause-is : goal.fresh_rank-rank_tree-requires-clause-is
fresh_rank-rank_tree-requires-clause-is t c = cc

pub fresh_left-fresh_tree-requires : goal.fresh_left-fresh_tree-requires
fresh_left-fresh_tree-requires t c = (search rules, left_below _ _ _ _ _ _ _ _ c.requires.plan c.requires.is c.get.ensures)

pub fresh_join-fresh_tree-requires : goal.fresh_join-fresh_tree-requires
fresh_join-fresh_tree-requires t c = (search rules, right_below _ _ _ _ _ _ _ _ c.requires.plan c.requires.is c.get-right.ensures)
