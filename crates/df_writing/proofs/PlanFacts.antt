-- Each form of a plan as it is written.
use Rattle.std.proofs.Common.{◌≡◌, ℕ, Bool, List, [], codes, rules}
use Rattle.std.specs.Prelude.{ℤ}
use Rattle.toml.specs.Data.{string}
use Rattle.df_expr.specs.declared.expr.Expr.{Expr}
use Rattle.df_ops.specs.declared.agg.Agg.{Agg}
use Rattle.df_ops.specs.declared.joins.How.{How}
use Rattle.df_ops.specs.declared.ranks.RankKind.{RankKind}
use Rattle.df_ops.specs.declared.windows.RollKind.{RollKind}
use Rattle.df_plan.specs.declared.plan.Plan.{Plan, Filter, Select, WithColumns, GroupBy, Join, Rolling, CumSum, Rank, the_lemmas}
use Rattle.df_text.specs.declared.document.FrameSpec.{FrameSpec}
use Rattle.df_writing.specs.ExpressionData.{expr_data, operand_data, triple_data}
use Rattle.df_writing.specs.StepData.{group_by_data, join_data, outputs_data, rank_data, rolling_data, side_data, then_step, written}

pub written-Filter : (fs : List FrameSpec) (p : Plan) (e : Expr) → written fs (Filter p e) ≡ then_step (written fs p) (operand_data (codes "filter") (expr_data e))
written-Filter fs p e = search (rules, the_lemmas)

pub written-Select : (fs : List FrameSpec) (p : Plan) (outputs : List (List ℕ × Expr)) → written fs (Select p outputs) ≡ then_step (written fs p) (outputs_data (codes "select") outputs)
written-Select fs p outputs = search (rules, the_lemmas)

pub written-WithColumns :
    (fs : List FrameSpec) (p : Plan) (outputs : List (List ℕ × Expr)) → written fs (WithColumns p outputs) ≡ then_step (written fs p) (outputs_data (codes "with_columns") outputs)
written-WithColumns fs p outputs = search (rules, the_lemmas)

pub written-GroupBy :
    (fs : List FrameSpec) (p : Plan) (keys : List (List ℕ)) (aggs : List (List ℕ × Agg)) → written fs (GroupBy p keys aggs) ≡ then_step (written fs p) (group_by_data keys aggs)
written-GroupBy fs p keys aggs = search (rules, the_lemmas)

pub written-Join :
    (fs : List FrameSpec) (left right : Plan) (how : How) (keys : List (List ℕ)) (equal : Bool)
    → written fs (Join left right how keys equal) ≡ then_step (written fs left) (join_data (side_data fs (written fs right)) how keys equal)
written-Join fs left right how keys equal = search (rules, the_lemmas)

pub written-Rolling :
    (fs : List FrameSpec) (p : Plan) (output : List ℕ) (kind : RollKind) (column : List ℕ) (w m : ℤ)
    → written fs (Rolling p output kind column w m) ≡ then_step (written fs p) (rolling_data output kind column w m)
written-Rolling fs p output kind column w m = search (rules, the_lemmas)

pub written-CumSum :
    (fs : List FrameSpec) (p : Plan) (output column : List ℕ)
    → written fs (CumSum p output column) ≡ then_step (written fs p) (triple_data (string (codes "cum_sum")) (string output) (string column))
written-CumSum fs p output column = search (rules, the_lemmas)

pub written-Rank :
    (fs : List FrameSpec) (p : Plan) (output : List ℕ) (kind : RankKind) (column : List ℕ)
    → written fs (Rank p output kind column) ≡ then_step (written fs p) (rank_data output kind column)
written-Rank fs p output kind column = search (rules, the_lemmas)
