-- A node over fresh trees of its inputs is a fresh tree of its plan.
use Rattle.std.proofs.Common.{◌≡◌, ℕ, ◌+◌, ◌*◌, ◌^◌, ◌≤◌, List, sym, ap, subst, ◌∙◌, arith}
use Rattle.std.specs.Prelude.{Ok}
use Rattle.std.specs.FinMap as finite
use Rattle.std.specs.declared.alloc.Global.{Global}
use Rattle.std.specs.declared.boxed.Box.{Box}
use Rattle.df_value.specs.Schemas.{Columns}
use Rattle.df_expr.specs.declared.meter.Meter.{Meter}
use Rattle.df_column.specs.Tables.{TaggedRows}
use Rattle.df_delta.specs.Work.{plus}
use Rattle.df_ops.specs.declared.plain_table.PlainTable.{PlainTable}
use Rattle.df_plan.specs.Checks.{plan_check, plan_scans, plan_scans_step}
use Rattle.df_plan.specs.declared.plan.Plan.{Plan}
use Rattle.df_plan.specs.declared.plan.Plan.TheVariants as plans
use Rattle.df_live.specs.Frames.{frame_at}
use Rattle.df_live.specs.Fresh.{AreEmpty, IsAtMost, IsFreshFor, IsNodeOf, IsPlanOver, nodes}
use Rattle.df_live.specs.Meaning.{Meaning, meaning, meaning_step}
use Rattle.df_live.specs.Operators.{operator_allowed, operator_budget, operator_output, operator_takes, is_operator_over}
use Rattle.df_live.specs.Trees.{IsOver, Takes, allowed, budget, output}
use Rattle.df_live.specs.declared.building.Fresh.{Fresh}
use Rattle.df_live.specs.declared.operator.LiveOperator.{LiveOperator}
use Rattle.df_live.specs.declared.tree.LiveTree.{LiveTree, Scan, Operator}
use Rattle.df_live.proofs.Folding.{at_scan}
use Rattle.df_live.proofs.Parts.{within_limits}
use Rattle.df_live.proofs.PlanLaws.{law, law_fits}

more_within : (a b : Meter) (n k : ℕ) → IsAtMost a (n * 2 ^ 82) → IsAtMost b (2 ^ 82) → k ≡ n + 1 → IsAtMost (plus a b) (k * 2 ^ 82)
more_within a b n k f g e = (omega (arith, f.0, g.0, e), omega (arith, f.1, g.1, e), omega (arith, f.2, g.2, e), omega (arith, f.3, g.3, e))

pub one_fresh :
    (schemas : List Columns) (i p : Plan) (input : Fresh) (schema : Columns) (b : Box LiveTree Global) (node : LiveOperator)
    (operator : TaggedRows → TaggedRows) (cost : ℕ → Meter) →
    b.value ≡ input.tree → IsFreshFor input i schemas → plan_check p schemas ≡ Ok schema → IsPlanOver schemas i p operator cost →
    IsNodeOf node input.schema operator cost → ((frames : List TaggedRows) → AreEmpty frames → (meaning schemas i).gives frames ≡ finite.empty) →
    IsFreshFor (record { tree = Operator b node; schema = schema; scans = input.scans }) p schemas
one_fresh schemas i p input schema b node operator cost below h checks plan is none = record {
  scans = h.scans ∙ sym plan.scans;
  few = few;
  schema = checks;
  gives = gives;
  work = λ frames after.
      (λ k. plus ((ap (λ t. allowed t frames after) below ∙ h.work frames after) k) (operator_allowed node (gives_below frames k) (gives_below after k)))
      ∙ ap (plus ((meaning schemas i).work frames after)) (is.work ((meaning schemas i).gives frames) ((meaning schemas i).gives after))
      ∙ sym (ap (λ (m : Meaning). m.work frames after) plan.means);
  takes = λ frames are. (
    subst (λ t. Takes t frames) (sym below) (h.takes frames are),
    subst (operator_takes node) (sym (gives_below frames))
        (is.takes ((meaning schemas i).gives frames) (law_fits schemas frames are i input.schema h.schema h.few)),
  );
  rows = λ frames are.
      ap finite.values (gives frames) ∙ ap (λ (t : PlainTable). t.rows) (law schemas frames are p few).table;
  over = λ frames empty. (
    subst (λ t. IsOver t frames) (sym below) (h.over frames empty),
    subst (is_operator_over node) (sym (gives_below frames ∙ none frames empty)) is.over,
  );
  budgeted = more_within (budget b.value) (operator_budget node) (nodes i) (nodes p) (subst (λ t. IsAtMost (budget t) (nodes i * 2 ^ 82)) (sym below) h.budgeted) is.budgeted plan.nodes_are;
}
  where
    few : plan_scans p ≤ 3
    few = subst (λ n. n ≤ 3) (sym plan.scans) h.few

    gives_below : (frames : List TaggedRows) → output b.value frames ≡ (meaning schemas i).gives frames
    gives_below frames = ap (λ t. output t frames) below ∙ h.gives frames

    gives : (frames : List TaggedRows) → operator_output node (output b.value frames) ≡ (meaning schemas p).gives frames
    gives frames =
        ap (operator_output node) (gives_below frames)
        ∙ is.gives ((meaning schemas i).gives frames)
        ∙ sym (ap (λ (m : Meaning). m.gives frames) plan.means)

pub scan_fresh :
    (schemas : List Columns) (p : Plan) (f : ℕ) (schema : Columns) → p ≡ plans.Scan f → plan_check p schemas ≡ Ok schema →
    IsFreshFor (record { tree = Scan f; schema = schema; scans = 1 }) p schemas
scan_fresh schemas p f schema is checks = record {
  scans = sym (at_scan ℕ plan_scans_step p f is);
  few = few;
  schema = checks;
  gives = gives;
  work = λ frames after. sym (ap (λ (m : Meaning). m.work frames after) (at_scan Meaning (meaning_step schemas) p f is));
  takes = λ frames are. tt;
  rows = λ frames are. ap finite.values (gives frames) ∙ ap (λ (t : PlainTable). t.rows) (law schemas frames are p few).table;
  over = λ frames empty. tt;
  budgeted = (omega arith, omega arith, omega arith, omega arith);
}
  where
    few : plan_scans p ≤ 3
    few = (within_limits p schemas schema checks).1

    gives : (frames : List TaggedRows) → frame_at frames f ≡ (meaning schemas p).gives frames
    gives frames = sym (ap (λ (m : Meaning). m.gives frames) (at_scan Meaning (meaning_step schemas) p f is))
