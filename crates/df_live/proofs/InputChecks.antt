-- The plans below a plan that checks, check too.
use Rattle.std.proofs.Common.{◌≡◌, ℕ, Bool, List, subst, sym}
use Rattle.std.specs.Prelude.{ℤ}
use Rattle.df_value.specs.Schemas.{Columns}
use Rattle.df_expr.specs.declared.expr.Expr.{Expr}
use Rattle.df_ops.specs.declared.agg.Agg.{Agg}
use Rattle.df_ops.specs.declared.joins.How.{How}
use Rattle.df_ops.specs.declared.ranks.RankKind.{RankKind}
use Rattle.df_ops.specs.declared.windows.RollKind.{RollKind}
use Rattle.df_plan.specs.Checks.{CheckResult, check_step, filter_check, group_by_check, plan_levels_step, plan_scans_step, select_check, with_columns_check}
use Rattle.df_plan.specs.ItemChecks.{expr_dtype_check}
use Rattle.df_plan.specs.JoinChecks.{join_check}
use Rattle.df_plan.specs.WindowChecks.{cum_sum_check, rank_check, rolling_check}
use Rattle.df_plan.specs.declared.plan.Plan.{Plan}
use Rattle.df_plan.specs.declared.plan.Plan.TheVariants as plans
use Rattle.df_live.specs.Fresh.{Checks}
use Rattle.df_live.proofs.Folding.{at_filter, at_group, at_join, at_rank, at_rolling, at_select, at_sum, at_with}
use Rattle.df_live.proofs.Parts.{both_check, part_checks}

module _ (schemas : List Columns) (p i : Plan) (h : Checks p schemas) where
  pub filter_input : (e : Expr) → p ≡ plans.Filter i e → Checks i schemas
  filter_input e is =
      let part =
      part_checks schemas p i (λ columns. filter_check columns (expr_dtype_check e columns)) h.columns h.checks
      (at_filter CheckResult (check_step schemas) p i e is) (at_filter ℕ plan_levels_step p i e is) (at_filter ℕ plan_scans_step p i e is) in
      record { columns = part.0; checks = part.1.0 }

  pub select_input : (items : List (List ℕ × Expr)) → p ≡ plans.Select i items → Checks i schemas
  select_input items is =
      let part =
      part_checks schemas p i (λ columns. select_check columns items) h.columns h.checks
      (at_select CheckResult (check_step schemas) p i items is) (at_select ℕ plan_levels_step p i items is) (at_select ℕ plan_scans_step p i items is) in
      record { columns = part.0; checks = part.1.0 }

  pub with_input : (items : List (List ℕ × Expr)) → p ≡ plans.WithColumns i items → Checks i schemas
  with_input items is =
      let part =
      part_checks schemas p i (λ columns. with_columns_check columns items) h.columns h.checks
      (at_with CheckResult (check_step schemas) p i items is) (at_with ℕ plan_levels_step p i items is) (at_with ℕ plan_scans_step p i items is) in
      record { columns = part.0; checks = part.1.0 }

  pub group_input : (keys : List (List ℕ)) (aggs : List (List ℕ × Agg)) → p ≡ plans.GroupBy i keys aggs → Checks i schemas
  group_input keys aggs is =
      let part =
      part_checks schemas p i (λ columns. group_by_check columns keys aggs) h.columns h.checks
      (at_group CheckResult (check_step schemas) p i keys aggs is) (at_group ℕ plan_levels_step p i keys aggs is) (at_group ℕ plan_scans_step p i keys aggs is) in
      record { columns = part.0; checks = part.1.0 }

  pub rolling_input : (name : List ℕ) (k : RollKind) (column : List ℕ) (w m : ℤ) → p ≡ plans.Rolling i name k column w m → Checks i schemas
  rolling_input name k column w m is =
      let part =
      part_checks schemas p i (λ columns. rolling_check columns name k column w m) h.columns h.checks
      (at_rolling CheckResult (check_step schemas) p i name k column w m is) (at_rolling ℕ plan_levels_step p i name k column w m is)
      (at_rolling ℕ plan_scans_step p i name k column w m is) in
      record { columns = part.0; checks = part.1.0 }

  pub sum_input : (name column : List ℕ) → p ≡ plans.CumSum i name column → Checks i schemas
  sum_input name column is =
      let part =
      part_checks schemas p i (λ columns. cum_sum_check columns name column) h.columns h.checks
      (at_sum CheckResult (check_step schemas) p i name column is) (at_sum ℕ plan_levels_step p i name column is) (at_sum ℕ plan_scans_step p i name column is) in
      record { columns = part.0; checks = part.1.0 }

  pub rank_input : (name : List ℕ) (k : RankKind) (column : List ℕ) → p ≡ plans.Rank i name k column → Checks i schemas
  rank_input name k column is =
      let part =
      part_checks schemas p i (λ columns. rank_check columns name column) h.columns h.checks
      (at_rank CheckResult (check_step schemas) p i name k column is) (at_rank ℕ plan_levels_step p i name k column is)
      (at_rank ℕ plan_scans_step p i name k column is) in
      record { columns = part.0; checks = part.1.0 }

  pub join_inputs : (j : Plan) (how : How) (keys : List (List ℕ)) (nulls_equal : Bool) → p ≡ plans.Join i j how keys nulls_equal → Checks i schemas × Checks j schemas
  join_inputs j how keys nulls_equal is =
      let both =
      both_check schemas p i j (λ ls rs. join_check ls rs keys) h.columns h.checks
      (at_join CheckResult (check_step schemas) p i j how keys nulls_equal is) (at_join ℕ plan_levels_step p i j how keys nulls_equal is)
      (at_join ℕ plan_scans_step p i j how keys nulls_equal is) in
      (record { columns = both.0; checks = both.2.0 }, record { columns = both.1; checks = both.2.1.0 })

-- the same of what is lent of the plan below
pub filter_below : (schemas : List Columns) (p x i : Plan) (e : Expr) → Checks p schemas → p ≡ plans.Filter x e → i ≡ x → Checks i schemas
filter_below schemas p x i e h is same = subst (λ y. Checks y schemas) (sym same) (filter_input schemas p x h e is)

pub select_below : (schemas : List Columns) (p x i : Plan) (items : List (List ℕ × Expr)) → Checks p schemas → p ≡ plans.Select x items → i ≡ x → Checks i schemas
select_below schemas p x i items h is same = subst (λ y. Checks y schemas) (sym same) (select_input schemas p x h items is)

pub with_below : (schemas : List Columns) (p x i : Plan) (items : List (List ℕ × Expr)) → Checks p schemas → p ≡ plans.WithColumns x items → i ≡ x → Checks i schemas
with_below schemas p x i items h is same = subst (λ y. Checks y schemas) (sym same) (with_input schemas p x h items is)

pub group_below : (schemas : List Columns) (p x i : Plan) (keys : List (List ℕ)) (aggs : List (List ℕ × Agg)) → Checks p schemas → p ≡ plans.GroupBy x keys aggs → i ≡ x → Checks i schemas
group_below schemas p x i keys aggs h is same = subst (λ y. Checks y schemas) (sym same) (group_input schemas p x h keys aggs is)

pub rolling_below : (schemas : List Columns) (p x i : Plan) (name : List ℕ) (k : RollKind) (column : List ℕ) (w m : ℤ) → Checks p schemas → p ≡ plans.Rolling x name k column w m → i ≡ x → Checks i schemas
rolling_below schemas p x i name k column w m h is same = subst (λ y. Checks y schemas) (sym same) (rolling_input schemas p x h name k column w m is)

pub sum_below : (schemas : List Columns) (p x i : Plan) (name column : List ℕ) → Checks p schemas → p ≡ plans.CumSum x name column → i ≡ x → Checks i schemas
sum_below schemas p x i name column h is same = subst (λ y. Checks y schemas) (sym same) (sum_input schemas p x h name column is)

pub rank_below : (schemas : List Columns) (p x i : Plan) (name : List ℕ) (k : RankKind) (column : List ℕ) → Checks p schemas → p ≡ plans.Rank x name k column → i ≡ x → Checks i schemas
rank_below schemas p x i name k column h is same = subst (λ y. Checks y schemas) (sym same) (rank_input schemas p x h name k column is)

pub left_below : (schemas : List Columns) (p x y i : Plan) (how : How) (keys : List (List ℕ)) (nulls_equal : Bool) → Checks p schemas → p ≡ plans.Join x y how keys nulls_equal → i ≡ x → Checks i schemas
left_below schemas p x y i how keys nulls_equal h is same = subst (λ z. Checks z schemas) (sym same) (join_inputs schemas p x h y how keys nulls_equal is).0

pub right_below : (schemas : List Columns) (p x y i : Plan) (how : How) (keys : List (List ℕ)) (nulls_equal : Bool) → Checks p schemas → p ≡ plans.Join x y how keys nulls_equal → i ≡ y → Checks i schemas
right_below schemas p x y i how keys nulls_equal h is same = subst (λ z. Checks z schemas) (sym same) (join_inputs schemas p x h y how keys nulls_equal is).1
