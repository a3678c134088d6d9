-- The plans of joins: what they mean over the plans below, and how many scans those have.
use Rattle.std.proofs.Common.{◌≡◌, ℕ, ◌+◌, ◌≤◌, Bool, List, [], refl, sym, ap, subst, ◌∙◌, arith}
use Rattle.std.specs.Prelude.{Ok}
use Rattle.std.specs.FinMap as finite
use Rattle.std.specs.Option.{IfSome}
use Rattle.df_value.specs.declared.cell.Cell.{Cell}
use Rattle.df_value.specs.Schemas.{Columns}
use Rattle.df_ops.specs.Joins.{join_indices_of}
use Rattle.df_ops.specs.declared.joins.How.{How}
use Rattle.df_column.specs.Tags.{tag_cmp}
use Rattle.df_join.specs.RowNotes.{joined_by_key}
use Rattle.df_join.specs.Sides.{AreScans, is_one}
use Rattle.df_join.specs.Spread.{HasKeys, IsTagOver}
use Rattle.df_join.specs.declared.rule.JoinRule.{JoinRule}
use Rattle.df_plan.specs.Checks.{plan_check, plan_scans, plan_scans_step}
use Rattle.df_plan.specs.declared.plan.Plan.{Plan}
use Rattle.df_plan.specs.declared.plan.Plan.TheVariants as plans
use Rattle.df_live.specs.Frames.{AreFrames}
use Rattle.df_live.specs.Fresh.{IsFreshFor, IsPlanOfTwo, nodes, nodes_step}
use Rattle.df_live.specs.Meaning.{Meaning, meaning, meaning_step}
use Rattle.df_live.specs.declared.building.Fresh.{Fresh}
use Rattle.df_live.proofs.Folding.{at_join}
use Rattle.df_live.proofs.PartColumns.{meant_columns}
use Rattle.df_live.proofs.Parts.{within_limits}
use Rattle.df_live.proofs.PlanLaws.{law, scans_are}

none_tagged : HasKeys (IsTagOver 1) (finite.empty {X = List Cell} {R = tag_cmp})
none_tagged = record { at = λ q. subst (λ o. IfSome o (λ _. IsTagOver 1 q)) (sym (finite.get-empty tag_cmp q)) tt }

no_frames : AreFrames [] []
no_frames = record { fit = refl; tags = λ f. none_tagged }

-- a plan has a scan
some_scans : (p : Plan) → plan_scans p ≤ 3 → 1 ≤ plan_scans p
some_scans p few = subst (λ n. 1 ≤ n) (scans_are [] p) (law [] [] no_frames p few).some

scans_so : (a b m n s : ℕ) → a ≡ m → b ≡ n → s ≡ m + n → s ≤ 3 → 1 ≤ m → 1 ≤ n → AreScans a b
scans_so a b m n s e f g few some other = record {
  left = omega (arith, e, some);
  right = omega (arith, f, other);
  both = omega (arith, e, f, g, few);
}

two_and_one : (n k s : ℕ) → s ≡ 1 + (n + k) → s ≡ n + k + 1
two_and_one n k s e = omega (arith, e)

abbrev rule_of : How → List (List ℕ) → Bool → Columns → Columns → JoinRule
rule_of how keys nulls_equal ls rs = record { how = how; indices = join_indices_of ls rs keys nulls_equal }

module _ (schemas : List Columns) (p i j : Plan) (how : How) (keys : List (List ℕ)) (nulls_equal : Bool) (is : p ≡ plans.Join i j how keys nulls_equal)
    (left right : Fresh) (f : IsFreshFor left i schemas) (g : IsFreshFor right j schemas) where
  pub join_scans : (cs : Columns) → plan_check p schemas ≡ Ok cs → AreScans left.scans right.scans
  join_scans cs checks =
      scans_so left.scans right.scans (plan_scans i) (plan_scans j) (plan_scans p) f.scans g.scans
      (at_join ℕ plan_scans_step p i j how keys nulls_equal is) (within_limits p schemas cs checks).1 (some_scans i f.few) (some_scans j g.few)

  pub join_over : IsPlanOfTwo schemas i j p (joined_by_key (is_one left.scans) (rule_of how keys nulls_equal left.schema right.schema))
  join_over =
      let means = at_join Meaning (meaning_step schemas) p i j how keys nulls_equal is in
      let of_left = meant_columns schemas i left.schema f.schema in
      let of_right = meant_columns schemas j right.schema g.schema in
      let scans = scans_are schemas i ∙ sym f.scans in
      record {
        scans = at_join ℕ plan_scans_step p i j how keys nulls_equal is;
        nodes_are = two_and_one (nodes i) (nodes j) (nodes p) (at_join ℕ nodes_step p i j how keys nulls_equal is);
        gives = λ frames.
            ap (λ (m : Meaning). m.gives frames) means
            ∙ (λ k. joined_by_key (is_one (scans k)) (rule_of how keys nulls_equal (of_left k) (of_right k)) ((meaning schemas i).gives frames) ((meaning schemas j).gives frames));
        work = λ frames after. ap (λ (m : Meaning). m.work frames after) means;
      }
