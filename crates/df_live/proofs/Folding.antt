-- What the folds over a plan give at each kind of node.
use Rattle.std.proofs.Common.{◌≡◌, ℕ, Bool, List, ap, ◌∙◌, sym}
use Rattle.std.specs.Prelude.{ℤ}
use Rattle.df_expr.specs.declared.expr.Expr.{Expr}
use Rattle.df_ops.specs.declared.agg.Agg.{Agg}
use Rattle.df_ops.specs.declared.joins.How.{How}
use Rattle.df_ops.specs.declared.ranks.RankKind.{RankKind}
use Rattle.df_ops.specs.declared.windows.RollKind.{RollKind}
use Rattle.df_plan.specs.declared.plan.Plan.{Plan, fold-Plan}
use Rattle.df_plan.specs.declared.plan.Plan.TheOpen.{Plan-F}
use Rattle.df_plan.specs.declared.plan.Plan.TheFolds.{fold-roll-Plan}
use Rattle.df_plan.specs.declared.plan.Plan.TheVariants as plan

module _ (A : Type 0) (step : Plan-F A → A) where
  pub at_scan : (p : Plan) (f : ℕ) → p ≡ plan.Scan f → fold-Plan A step p ≡ step (Plan-F.Scan f)
  at_scan p f is = ap (fold-Plan A step) (is ∙ sym (plan.rolls-Scan f)) ∙ fold-roll-Plan A step (Plan-F.Scan f)

  pub at_filter : (p i : Plan) (e : Expr) → p ≡ plan.Filter i e → fold-Plan A step p ≡ step (Plan-F.Filter (fold-Plan A step i) e)
  at_filter p i e is = ap (fold-Plan A step) (is ∙ sym (plan.rolls-Filter i e)) ∙ fold-roll-Plan A step (Plan-F.Filter i e)

  pub at_select : (p i : Plan) (items : List (List ℕ × Expr)) → p ≡ plan.Select i items → fold-Plan A step p ≡ step (Plan-F.Select (fold-Plan A step i) items)
  at_select p i items is = ap (fold-Plan A step) (is ∙ sym (plan.rolls-Select i items)) ∙ fold-roll-Plan A step (Plan-F.Select i items)

  pub at_with : (p i : Plan) (items : List (List ℕ × Expr)) → p ≡ plan.WithColumns i items →
      fold-Plan A step p ≡ step (Plan-F.WithColumns (fold-Plan A step i) items)
  at_with p i items is = ap (fold-Plan A step) (is ∙ sym (plan.rolls-WithColumns i items)) ∙ fold-roll-Plan A step (Plan-F.WithColumns i items)

  pub at_group : (p i : Plan) (keys : List (List ℕ)) (aggs : List (List ℕ × Agg)) → p ≡ plan.GroupBy i keys aggs →
      fold-Plan A step p ≡ step (Plan-F.GroupBy (fold-Plan A step i) keys aggs)
  at_group p i keys aggs is = ap (fold-Plan A step) (is ∙ sym (plan.rolls-GroupBy i keys aggs)) ∙ fold-roll-Plan A step (Plan-F.GroupBy i keys aggs)

  pub at_join : (p i j : Plan) (h : How) (keys : List (List ℕ)) (nulls_equal : Bool) → p ≡ plan.Join i j h keys nulls_equal →
      fold-Plan A step p ≡ step (Plan-F.Join (fold-Plan A step i) (fold-Plan A step j) h keys nulls_equal)
  at_join p i j h keys nulls_equal is =
      ap (fold-Plan A step) (is ∙ sym (plan.rolls-Join i j h keys nulls_equal)) ∙ fold-roll-Plan A step (Plan-F.Join i j h keys nulls_equal)

  pub at_rolling : (p i : Plan) (name : List ℕ) (k : RollKind) (column : List ℕ) (w m : ℤ) → p ≡ plan.Rolling i name k column w m →
      fold-Plan A step p ≡ step (Plan-F.Rolling (fold-Plan A step i) name k column w m)
  at_rolling p i name k column w m is =
      ap (fold-Plan A step) (is ∙ sym (plan.rolls-Rolling i name k column w m)) ∙ fold-roll-Plan A step (Plan-F.Rolling i name k column w m)

  pub at_sum : (p i : Plan) (name column : List ℕ) → p ≡ plan.CumSum i name column → fold-Plan A step p ≡ step (Plan-F.CumSum (fold-Plan A step i) name column)
  at_sum p i name column is = ap (fold-Plan A step) (is ∙ sym (plan.rolls-CumSum i name column)) ∙ fold-roll-Plan A step (Plan-F.CumSum i name column)

  pub at_rank : (p i : Plan) (name : List ℕ) (k : RankKind) (column : List ℕ) → p ≡ plan.Rank i name k column →
      fold-Plan A step p ≡ step (Plan-F.Rank (fold-Plan A step i) name k column)
  at_rank p i name k column is = ap (fold-Plan A step) (is ∙ sym (plan.rolls-Rank i name k column)) ∙ fold-roll-Plan A step (Plan-F.Rank i name k column)
