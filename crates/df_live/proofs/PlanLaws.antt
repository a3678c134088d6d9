-- The law of every plan, and what follows of its columns and its rows.
use Rattle.std.proofs.Common.{◌≡◌, ℕ, ◌+◌, ◌≤◌, List, refl, sym, ap, subst, ◌∙◌, arith}
use Rattle.std.specs.Prelude.{Ok, IsTrue}
use Rattle.df_value.specs.Schemas.{Columns}
use Rattle.df_ops.specs.declared.plain_table.PlainTable.{PlainTable}
use Rattle.df_column.specs.Tables.{TaggedRows}
use Rattle.df_delta.specs.Deltas.{RowsFit}
use Rattle.df_value.specs.Rows.{rows_fit}
use Rattle.df_plan.specs.Checks.{plan_check, plan_scans, plan_scans_step}
use Rattle.df_plan.specs.Meaning.{table_of, table_step}
use Rattle.df_plan.specs.declared.plan.Plan.{Plan}
use Rattle.df_plan.specs.declared.plan.Plan.TheOpen.{Plan-F}
use Rattle.df_plan.specs.declared.plan.Plan.TheFolds.{fold-roll-Plan, ind-Plan, map-Plan}
use Rattle.df_plan.specs.declared.plan.Plan.TheViews.{roll-Plan}
use Rattle.df_plan.proofs.Sound.{table_columns, table_fits}
use Rattle.df_live.specs.Frames.{AreFrames, rows_of_frames}
use Rattle.df_live.specs.Lawful.{IsLawful}
use Rattle.df_live.specs.Meaning.{Meaning, meaning, meaning_step}
use Rattle.df_live.proofs.FitRows.{rows_fit_at}
use Rattle.df_live.proofs.NodeLaws.{filter_law, group_law, join_law, rank_law, rolling_law, scan_law, select_law, sum_law, with_law}
use Rattle.df_ops.specs.Windows.{size_of}

-- the scans of a plan's meaning are those of the plan
abbrev HasScans : List Columns → Plan → Type 0
HasScans schemas p = (meaning schemas p).scans ≡ plan_scans p

scans_step : (schemas : List Columns) (y : Plan-F ((p : Plan) × HasScans schemas p)) → HasScans schemas (roll-Plan (map-Plan ((p : Plan) × HasScans schemas p) Plan (λ p. p.0) y))
scans_step schemas (Plan-F.Scan f) = rw (fold-roll-Plan Meaning (meaning_step schemas), fold-roll-Plan ℕ plan_scans_step) refl
scans_step schemas (Plan-F.Filter a p) = rw (fold-roll-Plan Meaning (meaning_step schemas), fold-roll-Plan ℕ plan_scans_step) a.1
scans_step schemas (Plan-F.Select a items) = rw (fold-roll-Plan Meaning (meaning_step schemas), fold-roll-Plan ℕ plan_scans_step) a.1
scans_step schemas (Plan-F.WithColumns a items) = rw (fold-roll-Plan Meaning (meaning_step schemas), fold-roll-Plan ℕ plan_scans_step) a.1
scans_step schemas (Plan-F.GroupBy a keys aggs) = rw (fold-roll-Plan Meaning (meaning_step schemas), fold-roll-Plan ℕ plan_scans_step) a.1
scans_step schemas (Plan-F.Join a b how keys nulls_equal) =
    rw (fold-roll-Plan Meaning (meaning_step schemas), fold-roll-Plan ℕ plan_scans_step) (λ i. a.1 i + b.1 i)
scans_step schemas (Plan-F.Rolling a name k column w m) = rw (fold-roll-Plan Meaning (meaning_step schemas), fold-roll-Plan ℕ plan_scans_step) a.1
scans_step schemas (Plan-F.CumSum a name column) = rw (fold-roll-Plan Meaning (meaning_step schemas), fold-roll-Plan ℕ plan_scans_step) a.1
scans_step schemas (Plan-F.Rank a name k column) = rw (fold-roll-Plan Meaning (meaning_step schemas), fold-roll-Plan ℕ plan_scans_step) a.1

pub scans_are : (schemas : List Columns) (p : Plan) → HasScans schemas p
scans_are schemas = ind-Plan (HasScans schemas) (λ x y is. subst (λ z. HasScans schemas (roll-Plan z)) is (scans_step schemas y))

-- the law, of a plan of few scans
abbrev HasLaw : List Columns → List TaggedRows → Plan → Type 0
HasLaw schemas frames p = (meaning schemas p).scans ≤ 3 → IsLawful frames (meaning schemas p) (table_of p schemas (rows_of_frames frames))

module _ (schemas : List Columns) (frames : List TaggedRows) (are : AreFrames schemas frames) where
  abbrev Held : Type 0
  Held = (p : Plan) × HasLaw schemas frames p

  abbrev mean : Held → Meaning
  mean a = meaning schemas a.0

  abbrev table : Held → PlainTable
  table a = table_of a.0 schemas (rows_of_frames frames)

  law_step : (y : Plan-F Held) → HasLaw schemas frames (roll-Plan (map-Plan Held Plan (λ p. p.0) y))
  law_step (Plan-F.Scan f) =
      rw (fold-roll-Plan Meaning (meaning_step schemas), fold-roll-Plan PlainTable (table_step schemas (rows_of_frames frames)))
      (λ few. scan_law schemas frames f are)
  law_step (Plan-F.Filter a p) =
      rw (fold-roll-Plan Meaning (meaning_step schemas), fold-roll-Plan PlainTable (table_step schemas (rows_of_frames frames)))
      (λ few. filter_law frames (mean a) (table a) (a.1 few) p)
  law_step (Plan-F.Select a items) =
      rw (fold-roll-Plan Meaning (meaning_step schemas), fold-roll-Plan PlainTable (table_step schemas (rows_of_frames frames)))
      (λ few. select_law frames (mean a) (table a) (a.1 few) items)
  law_step (Plan-F.WithColumns a items) =
      rw (fold-roll-Plan Meaning (meaning_step schemas), fold-roll-Plan PlainTable (table_step schemas (rows_of_frames frames)))
      (λ few. with_law frames (mean a) (table a) (a.1 few) items)
  law_step (Plan-F.GroupBy a keys aggs) =
      rw (fold-roll-Plan Meaning (meaning_step schemas), fold-roll-Plan PlainTable (table_step schemas (rows_of_frames frames)))
      (λ few. group_law frames (mean a) (table a) (a.1 few) keys aggs)
  law_step (Plan-F.Join a b how keys nulls_equal) =
      rw (fold-roll-Plan Meaning (meaning_step schemas), fold-roll-Plan PlainTable (table_step schemas (rows_of_frames frames)))
      (λ few. join_law frames (mean a) (mean b) (table a) (table b) how keys nulls_equal (a.1 (omega (arith, few))) (b.1 (omega (arith, few))) few)
  law_step (Plan-F.Rolling a name k column w m) =
      rw (fold-roll-Plan Meaning (meaning_step schemas), fold-roll-Plan PlainTable (table_step schemas (rows_of_frames frames)))
      (λ few. rolling_law frames (mean a) (table a) (a.1 few) name k column (size_of w) (size_of m))
  law_step (Plan-F.CumSum a name column) =
      rw (fold-roll-Plan Meaning (meaning_step schemas), fold-roll-Plan PlainTable (table_step schemas (rows_of_frames frames)))
      (λ few. sum_law frames (mean a) (table a) (a.1 few) name column)
  law_step (Plan-F.Rank a name k column) =
      rw (fold-roll-Plan Meaning (meaning_step schemas), fold-roll-Plan PlainTable (table_step schemas (rows_of_frames frames)))
      (λ few. rank_law frames (mean a) (table a) (a.1 few) name k column)

  pub law : (p : Plan) → plan_scans p ≤ 3 → IsLawful frames (meaning schemas p) (table_of p schemas (rows_of_frames frames))
  law p few =
      ind-Plan (HasLaw schemas frames) (λ x y is. subst (λ z. HasLaw schemas frames (roll-Plan z)) is (law_step y)) p
      (subst (λ n. n ≤ 3) (sym (scans_are schemas p)) few)

  -- where the plan checks, its rows fit the columns that the check found
  pub law_fits : (p : Plan) (cs : Columns) → plan_check p schemas ≡ Ok cs → plan_scans p ≤ 3 → RowsFit cs ((meaning schemas p).gives frames)
  law_fits p cs checks few =
      rows_fit_at cs ((meaning schemas p).gives frames)
      (subst (λ (t : PlainTable). IsTrue (rows_fit cs t.rows)) (sym (law p few).table) (table_fits schemas (rows_of_frames frames) are.fit p cs checks))

  -- and it means those columns
  pub law_columns : (p : Plan) (cs : Columns) → plan_check p schemas ≡ Ok cs → plan_scans p ≤ 3 → (meaning schemas p).columns ≡ cs
  law_columns p cs checks few =
      ap (λ (t : PlainTable). t.columns) (law p few).table ∙ table_columns schemas (rows_of_frames frames) are.fit p cs checks
