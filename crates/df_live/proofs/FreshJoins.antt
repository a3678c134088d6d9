-- A join over fresh trees of its inputs is a fresh tree of its plan.
use Rattle.std.proofs.Common.{◌≡◌, ℕ, ◌+◌, ◌*◌, ◌^◌, ◌≤◌, List, sym, ap, subst, ◌∙◌, arith}
use Rattle.std.specs.Prelude.{Ok}
use Rattle.std.specs.FinMap as finite
use Rattle.std.specs.declared.alloc.Global.{Global}
use Rattle.std.specs.declared.boxed.Box.{Box}
use Rattle.df_value.specs.Schemas.{Columns}
use Rattle.df_expr.specs.declared.meter.Meter.{Meter}
use Rattle.df_column.specs.Tables.{TaggedRows}
use Rattle.df_delta.specs.Work.{plus}
use Rattle.df_join.specs.Spread.{HasKeys, IsTagOver}
use Rattle.df_ops.specs.declared.plain_table.PlainTable.{PlainTable}
use Rattle.df_plan.specs.Checks.{plan_check, plan_scans}
use Rattle.df_plan.specs.declared.plan.Plan.{Plan}
use Rattle.df_live.specs.Frames.{AreFrames}
use Rattle.df_live.specs.Fresh.{IsAtMost, IsFreshFor, IsJoinOf, IsPlanOfTwo, nodes}
use Rattle.df_live.specs.JoinOperators.{is_join_over, join_allowed, join_budget, join_gives, join_takes}
use Rattle.df_live.specs.Meaning.{meaning}
use Rattle.df_live.specs.Trees.{IsOver, Takes, allowed, budget, output}
use Rattle.df_live.specs.declared.building.Fresh.{Fresh}
use Rattle.df_live.specs.declared.joined.JoinOperator.{JoinOperator}
use Rattle.df_live.specs.declared.tree.LiveTree.{LiveTree, Join}
use Rattle.df_live.proofs.NoRows.{gives_none}
use Rattle.df_live.proofs.PlanLaws.{law, law_fits, scans_are}

both_within : (a b c : Meter) (n k s : ℕ) → IsAtMost a (n * 2 ^ 82) → IsAtMost b (k * 2 ^ 82) → IsAtMost c (2 ^ 82) → s ≡ n + k + 1 → IsAtMost (plus a (plus b c)) (s * 2 ^ 82)
both_within a b c n k s f g h e =
    (omega (arith, f.0, g.0, h.0, e), omega (arith, f.1, g.1, h.1, e), omega (arith, f.2, g.2, h.2, e), omega (arith, f.3, g.3, h.3, e))

-- what a tree below gives
below : (schemas : List Columns) (i : Plan) (made : Fresh) (b : Box LiveTree Global) → b.value ≡ made.tree → IsFreshFor made i schemas →
    (frames : List TaggedRows) → output b.value frames ≡ (meaning schemas i).gives frames
below schemas i made b is h frames = ap (λ t. output t frames) is ∙ h.gives frames

tags_below : (schemas : List Columns) (i : Plan) (made : Fresh) → IsFreshFor made i schemas → (frames : List TaggedRows) → AreFrames schemas frames →
    HasKeys (IsTagOver made.scans) ((meaning schemas i).gives frames)
tags_below schemas i made h frames are =
    subst (λ n. HasKeys (IsTagOver n) ((meaning schemas i).gives frames)) (scans_are schemas i ∙ sym h.scans) (law schemas frames are i h.few).tags

pub join_fresh :
    (schemas : List Columns) (i j p : Plan) (left right : Fresh) (schema : Columns) (a b : Box LiveTree Global) (node : JoinOperator)
    (joined : TaggedRows → TaggedRows → TaggedRows) →
    a.value ≡ left.tree → b.value ≡ right.tree → IsFreshFor left i schemas → IsFreshFor right j schemas → plan_check p schemas ≡ Ok schema →
    plan_scans p ≤ 3 → IsPlanOfTwo schemas i j p joined → IsJoinOf node left.schema right.schema left.scans right.scans joined →
    IsFreshFor (record { tree = Join a b node; schema = schema; scans = left.scans + right.scans }) p schemas
join_fresh schemas i j p left right schema a b node joined on_left on_right f g checks few plan is = record {
  scans = (λ k. f.scans k + g.scans k) ∙ sym plan.scans;
  few = few;
  schema = checks;
  gives = gives;
  work = λ frames after.
      (λ k. plus ((ap (λ t. allowed t frames after) on_left ∙ f.work frames after) k)
      (plus ((ap (λ t. allowed t frames after) on_right ∙ g.work frames after) k)
      (join_allowed node (at_left frames k) (at_left after k) (at_right frames k) (at_right after k))))
      ∙ ap (λ x. plus ((meaning schemas i).work frames after) (plus ((meaning schemas j).work frames after) x))
      (is.work ((meaning schemas i).gives frames) ((meaning schemas i).gives after) ((meaning schemas j).gives frames) ((meaning schemas j).gives after))
      ∙ sym (plan.work frames after);
  takes = λ frames are. (
    subst (λ t. Takes t frames) (sym on_left) (f.takes frames are),
    subst (λ t. Takes t frames) (sym on_right) (g.takes frames are),
    subst (λ l. join_takes node l (output b.value frames)) (sym (at_left frames))
        (subst (λ r. join_takes node ((meaning schemas i).gives frames) r) (sym (at_right frames))
        (is.takes _ _ (law_fits schemas frames are i left.schema f.schema f.few) (law_fits schemas frames are j right.schema g.schema g.few)
        (tags_below schemas i left f frames are) (tags_below schemas j right g frames are))),
  );
  rows = λ frames are. ap finite.values (gives frames) ∙ ap (λ (t : PlainTable). t.rows) (law schemas frames are p few).table;
  over = λ frames empty. (
    subst (λ t. IsOver t frames) (sym on_left) (f.over frames empty),
    subst (λ t. IsOver t frames) (sym on_right) (g.over frames empty),
    subst (λ l. is_join_over node l (output b.value frames)) (sym (at_left frames ∙ gives_none schemas frames empty i))
        (subst (λ r. is_join_over node finite.empty r) (sym (at_right frames ∙ gives_none schemas frames empty j)) is.over),
  );
  budgeted =
      both_within (budget a.value) (budget b.value) (join_budget node) (nodes i) (nodes j) (nodes p)
      (subst (λ t. IsAtMost (budget t) (nodes i * 2 ^ 82)) (sym on_left) f.budgeted)
      (subst (λ t. IsAtMost (budget t) (nodes j * 2 ^ 82)) (sym on_right) g.budgeted) is.budgeted plan.nodes_are;
}
  where
    at_left : (frames : List TaggedRows) → output a.value frames ≡ (meaning schemas i).gives frames
    at_left = below schemas i left a on_left f

    at_right : (frames : List TaggedRows) → output b.value frames ≡ (meaning schemas j).gives frames
    at_right = below schemas j right b on_right g

    gives : (frames : List TaggedRows) → join_gives node (output a.value frames) (output b.value frames) ≡ (meaning schemas p).gives frames
    gives frames =
        (λ k. join_gives node (at_left frames k) (at_right frames k))
        ∙ is.gives ((meaning schemas i).gives frames) ((meaning schemas j).gives frames)
        ∙ sym (plan.gives frames)
