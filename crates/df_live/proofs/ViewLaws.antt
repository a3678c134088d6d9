-- What a view's tree and table are of, before and after a change.
use Rattle.std.proofs.Common.{◌≡◌, ℕ, Bool, true, false, List, sym, ap, subst, ◌∙◌}
use Rattle.std.specs.Prelude.{Ok, Some, None, if◌then◌else◌}
use Rattle.std.specs.FinMap as finite
use Rattle.df_value.specs.Schemas.{Columns}
use Rattle.df_column.specs.Changes.{applied}
use Rattle.df_column.specs.Tables.{TableParts, TaggedRows}
use Rattle.df_delta.specs.Deltas.{Changes, RowsFit}
use Rattle.df_delta.specs.Differences.{IsDiff}
use Rattle.df_plan.specs.CheckedParts.{CheckedParts}
use Rattle.df_plan.specs.Checks.{CheckResult, plan_check}
use Rattle.df_live.specs.Frames.{AreFrames, changed}
use Rattle.df_live.specs.Fresh.{AreEmpty, IsFreshFor}
use Rattle.df_live.specs.KeptDiffs.{IsKeptDiff}
use Rattle.df_live.specs.Trees.{IsOver, MayFollow, Takes, allowed, output}
use Rattle.df_live.specs.Views.{IsChangeOf, IsOf, value}
use Rattle.df_live.specs.declared.building.Fresh.{Fresh}
use Rattle.df_live.specs.declared.tree.LiveTree.{LiveTree}
use Rattle.df_live.proofs.NoRows.{gives_none}
use Rattle.df_live.proofs.PlanLaws.{law_fits}

pub fresh_is_of : (made : Fresh) (plan : CheckedParts) → plan_check plan.plan plan.frames ≡ Ok plan.schema → IsFreshFor made plan.plan plan.frames → IsOf made.tree plan
fresh_is_of made plan checks h = record {
  gives = h.gives;
  work = h.work;
  takes = h.takes;
  rows = λ frames are. ap finite.values (sym (h.gives frames)) ∙ h.rows frames are;
  fits = λ frames are. law_fits plan.frames frames are plan.plan plan.schema checks h.few;
}

-- another tree of the same output and the same allowance
pub same_is_of :
    (t u : LiveTree) (plan : CheckedParts) → ((frames : List TaggedRows) → output u frames ≡ output t frames) →
    ((frames after : List TaggedRows) → allowed u frames after ≡ allowed t frames after) →
    ((frames : List TaggedRows) → Takes t frames → Takes u frames) → IsOf t plan → IsOf u plan
same_is_of t u plan gives work takes h = record {
  gives = λ frames. gives frames ∙ h.gives frames;
  work = λ frames after. work frames after ∙ h.work frames after;
  takes = λ frames are. takes frames (h.takes frames are);
  rows = h.rows;
  fits = h.fits;
}

pub follows :
    (tree : LiveTree) (plan : CheckedParts) (frames : List TaggedRows) (f : ℕ) (d : Changes) → IsOf tree plan → IsOver tree frames →
    IsChangeOf plan.frames frames f d → MayFollow tree frames f d
follows tree plan frames f d h over is = (over, h.takes frames is.before, h.takes (changed frames f d) is.after, is.within, is.lean, is.fits)

-- the table after the delta of the tree's output
pub table_after :
    (tree : LiveTree) (plan : CheckedParts) (frames after : List TaggedRows) (t u : TableParts) (d : Changes) → IsOf tree plan →
    t.rows ≡ value plan frames → t.schema ≡ plan.schema → AreFrames plan.frames after → IsDiff (output tree frames) (output tree after) d →
    (RowsFit t.schema (applied t.rows d) → u.rows ≡ applied t.rows d) → u.rows ≡ value plan after
table_after tree plan frames after t u d h rows schema are diff gives =
    let is : applied t.rows d ≡ value plan after = ap (λ r. applied r d) (rows ∙ sym (h.gives frames)) ∙ (diff.gives ∙ h.gives after) in
    gives (subst (λ s. RowsFit s (applied t.rows d)) (sym schema) (subst (RowsFit plan.schema) (sym is) (h.fits after are))) ∙ is

kept_or_not : (keeps : Bool) (t u : TaggedRows) (d : Changes) → IsDiff t u d → IsKeptDiff keeps t u (if keeps then Some d else None)
kept_or_not true t u d h = h
kept_or_not false t u d h = tt

-- the delta of the tree's output is that of the view's table
pub kept_diff :
    (tree : LiveTree) (plan : CheckedParts) (frames after : List TaggedRows) (keeps : Bool) (d : Changes) → IsOf tree plan →
    IsDiff (output tree frames) (output tree after) d → IsKeptDiff keeps (value plan frames) (value plan after) (if keeps then Some d else None)
kept_diff tree plan frames after keeps d h diff =
    kept_or_not keeps (value plan frames) (value plan after) d
    (subst (λ t. IsDiff t (value plan after) d) (h.gives frames) (subst (λ u. IsDiff (output tree frames) u d) (h.gives after) diff))

same_columns : (r : CheckResult) (a b : Columns) → r ≡ Ok a → r ≡ Ok b → a ≡ b
same_columns r a b f g = cc

pub fresh_schema : (made : Fresh) (plan : CheckedParts) → plan_check plan.plan plan.frames ≡ Ok plan.schema → IsFreshFor made plan.plan plan.frames → made.schema ≡ plan.schema
fresh_schema made plan checks h = same_columns (plan_check plan.plan plan.frames) made.schema plan.schema h.schema checks

-- a table of no rows is that of the plan over empty frames
pub first_table : (plan : CheckedParts) (frames : List TaggedRows) (t : TableParts) → AreEmpty frames → t.rows ≡ finite.empty → t.rows ≡ value plan frames
first_table plan frames t none is = is ∙ sym (gives_none plan.frames frames none plan.plan)
