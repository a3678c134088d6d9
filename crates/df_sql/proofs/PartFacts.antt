-- The parts of a plan that has columns, have columns.
use Rattle.std.proofs.Common.{◌≡◌, ◌∙◌, ℕ, Bool, List, rules, subst, sym}
use Rattle.std.specs.Prelude.{ℤ, Ok}
use Rattle.df_value.specs.Outcomes.{then_next}
use Rattle.df_value.specs.Schemas.{Columns}
use Rattle.df_expr.specs.declared.expr.Expr.{Expr}
use Rattle.df_ops.specs.declared.agg.Agg.{Agg}
use Rattle.df_ops.specs.declared.joins.How.{How}
use Rattle.df_ops.specs.declared.ranks.RankKind.{RankKind}
use Rattle.df_ops.specs.declared.windows.RollKind.{RollKind}
use Rattle.df_plan.proofs.Found.{checked_columns, then_ok}
use Rattle.df_plan.specs.Checks.{CheckResult, columns_of, filter_check, group_by_check, plan_check, select_check, with_columns_check}
use Rattle.df_plan.specs.ItemChecks.{expr_dtype_check}
use Rattle.df_plan.specs.JoinChecks.{join_check}
use Rattle.df_plan.specs.WindowChecks.{cum_sum_check, rank_check, rolling_check}
use Rattle.df_plan.specs.declared.plan.Plan.{Plan, the_lemmas}
use Rattle.df_plan.specs.declared.plan.Plan.TheVariants as plan
use Rattle.df_sql.specs.Parts.{HasColumns}

pub of_checked : (p : Plan) (schemas : List Columns) (cs : Columns) → plan_check p schemas ≡ Ok cs → HasColumns p schemas
unfolding HasColumns
of_checked p schemas cs h = (cs, checked_columns p schemas cs h)

module _ (schemas : List Columns) where
  -- the one input of a node
  one : (p i : Plan) (next : Columns → CheckResult) → HasColumns p schemas → columns_of p schemas ≡ then_next (columns_of i schemas) next → HasColumns i schemas
  unfolding HasColumns
  one p i next h e = let found = then_ok (columns_of i schemas) next h.0 (sym e ∙ h.1) in (found.0, found.1.0)

  -- both inputs of a join
  both :
      (p l r : Plan) (next : Columns → Columns → CheckResult) → HasColumns p schemas
      → columns_of p schemas ≡ then_next (columns_of l schemas) (λ ls. then_next (columns_of r schemas) (next ls)) → HasColumns l schemas × HasColumns r schemas
  unfolding HasColumns
  both p l r next h e =
      let first = then_ok (columns_of l schemas) (λ ls. then_next (columns_of r schemas) (next ls)) h.0 (sym e ∙ h.1) in
      let second = then_ok (columns_of r schemas) (next first.0) h.0 first.1.1 in
      ((first.0, first.1.0), (second.0, second.1.0))

  at_filter : (i : Plan) (e : Expr) → columns_of (plan.Filter i e) schemas ≡ then_next (columns_of i schemas) (λ columns. filter_check columns (expr_dtype_check e columns))
  at_filter i e = search (rules, the_lemmas)

  at_select : (i : Plan) (items : List (List ℕ × Expr)) → columns_of (plan.Select i items) schemas ≡ then_next (columns_of i schemas) (λ columns. select_check columns items)
  at_select i items = search (rules, the_lemmas)

  at_with : (i : Plan) (items : List (List ℕ × Expr)) → columns_of (plan.WithColumns i items) schemas ≡ then_next (columns_of i schemas) (λ columns. with_columns_check columns items)
  at_with i items = search (rules, the_lemmas)

  at_group :
      (i : Plan) (keys : List (List ℕ)) (aggs : List (List ℕ × Agg)) → columns_of (plan.GroupBy i keys aggs) schemas ≡ then_next (columns_of i schemas) (λ columns. group_by_check columns keys aggs)
  at_group i keys aggs = search (rules, the_lemmas)

  at_join :
      (i j : Plan) (h : How) (keys : List (List ℕ)) (equal : Bool)
      → columns_of (plan.Join i j h keys equal) schemas ≡ then_next (columns_of i schemas) (λ ls. then_next (columns_of j schemas) (λ rs. join_check ls rs keys))
  at_join i j h keys equal = search (rules, the_lemmas)

  at_rolling :
      (i : Plan) (output : List ℕ) (k : RollKind) (column : List ℕ) (w m : ℤ)
      → columns_of (plan.Rolling i output k column w m) schemas ≡ then_next (columns_of i schemas) (λ columns. rolling_check columns output k column w m)
  at_rolling i output k column w m = search (rules, the_lemmas)

  at_sum : (i : Plan) (output column : List ℕ) → columns_of (plan.CumSum i output column) schemas ≡ then_next (columns_of i schemas) (λ columns. cum_sum_check columns output column)
  at_sum i output column = search (rules, the_lemmas)

  at_rank :
      (i : Plan) (output : List ℕ) (k : RankKind) (column : List ℕ) → columns_of (plan.Rank i output k column) schemas ≡ then_next (columns_of i schemas) (λ columns. rank_check columns output column)
  at_rank i output k column = search (rules, the_lemmas)

  pub of_filter : (p i : Plan) (e : Expr) → HasColumns p schemas → p ≡ plan.Filter i e → HasColumns i schemas
  of_filter p i e h is = one (plan.Filter i e) i _ (subst (λ x. HasColumns x schemas) is h) (at_filter i e)

  pub of_select : (p i : Plan) (items : List (List ℕ × Expr)) → HasColumns p schemas → p ≡ plan.Select i items → HasColumns i schemas
  of_select p i items h is = one (plan.Select i items) i _ (subst (λ x. HasColumns x schemas) is h) (at_select i items)

  pub of_with : (p i : Plan) (items : List (List ℕ × Expr)) → HasColumns p schemas → p ≡ plan.WithColumns i items → HasColumns i schemas
  of_with p i items h is = one (plan.WithColumns i items) i _ (subst (λ x. HasColumns x schemas) is h) (at_with i items)

  pub of_group : (p i : Plan) (keys : List (List ℕ)) (aggs : List (List ℕ × Agg)) → HasColumns p schemas → p ≡ plan.GroupBy i keys aggs → HasColumns i schemas
  of_group p i keys aggs h is = one (plan.GroupBy i keys aggs) i _ (subst (λ x. HasColumns x schemas) is h) (at_group i keys aggs)

  pub of_join :
      (p i j : Plan) (how : How) (keys : List (List ℕ)) (equal : Bool) → HasColumns p schemas → p ≡ plan.Join i j how keys equal → HasColumns i schemas × HasColumns j schemas
  of_join p i j how keys equal h is = both (plan.Join i j how keys equal) i j _ (subst (λ x. HasColumns x schemas) is h) (at_join i j how keys equal)

  pub of_rolling :
      (p i : Plan) (output : List ℕ) (k : RollKind) (column : List ℕ) (w m : ℤ) → HasColumns p schemas → p ≡ plan.Rolling i output k column w m → HasColumns i schemas
  of_rolling p i output k column w m h is = one (plan.Rolling i output k column w m) i _ (subst (λ x. HasColumns x schemas) is h) (at_rolling i output k column w m)

  pub of_sum : (p i : Plan) (output column : List ℕ) → HasColumns p schemas → p ≡ plan.CumSum i output column → HasColumns i schemas
  of_sum p i output column h is = one (plan.CumSum i output column) i _ (subst (λ x. HasColumns x schemas) is h) (at_sum i output column)

  pub of_rank : (p i : Plan) (output : List ℕ) (k : RankKind) (column : List ℕ) → HasColumns p schemas → p ≡ plan.Rank i output k column → HasColumns i schemas
  of_rank p i output k column h is = one (plan.Rank i output k column) i _ (subst (λ x. HasColumns x schemas) is h) (at_rank i output k column)
