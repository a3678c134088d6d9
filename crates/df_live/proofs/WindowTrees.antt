-- The plans of windows, sums and ranks: what they mean over the plan below, and the columns that their checks find.
use Rattle.std.proofs.Common.{◌≡◌, ℕ, ◌+◌, ◌*◌, ◌≤◌, Bool, true, false, cond, List, [], ◌∷◌, refl, sym, ap, subst, ◌∙◌, arith}
use Rattle.std.specs.Prelude.{Ok, Err, Some, ℤ, pos, negsuc, ◌&&◌, int_le}
use Rattle.std.proofs.lemmas.Bool.Decides.{nat_tests}
use Rattle.df_value.specs.Schemas.{Columns, column_dtype, column_index}
use Rattle.df_value.specs.declared.cell.CellType.TheVariants as dtype
use Rattle.df_expr.specs.declared.meter.Meter.{Meter}
use Rattle.df_ops.specs.NamedColumns.{with_columns}
use Rattle.df_ops.specs.Windows.{rolling_dtype, size_of}
use Rattle.df_ops.specs.declared.ranks.RankKind.{RankKind}
use Rattle.df_ops.specs.declared.windows.RollKind.{RollKind}
use Rattle.df_column.specs.Tables.{TaggedRows}
use Rattle.df_delta.specs.Work.{no_work}
use Rattle.df_nodes.specs.Outputs.{rolled, summed}
use Rattle.df_nodes.specs.Rolling.{windows}
use Rattle.df_ranks.specs.Ranked.{ranked}
use Rattle.df_plan.specs.Checks.{CheckResult, check_step, plan_check, plan_levels_step, plan_scans_step}
use Rattle.df_plan.specs.WindowChecks.{cum_sum_check, int_column_dtype, is_window, output_column_check, rank_check, rolling_check}
use Rattle.df_plan.specs.declared.fault.PlanFault.{PlanFault}
use Rattle.df_plan.specs.declared.fault.PlanFault.TheVariants as fault
use Rattle.df_plan.specs.declared.plan.Plan.{Plan}
use Rattle.df_plan.specs.declared.plan.Plan.TheVariants as plans
use Rattle.df_plan.proofs.WindowSound.{cum_sum_found, rank_found, roll_found}
use Rattle.df_live.specs.Fresh.{IsNodeOf, IsPlanOver, nodes, nodes_step}
use Rattle.df_live.specs.Meaning.{Meaning, meaning, meaning_step, over_one}
use Rattle.df_live.specs.declared.operator.LiveOperator.{LiveOperator}
use Rattle.df_live.proofs.Folding.{at_rank, at_rolling, at_sum}
use Rattle.df_live.proofs.Parts.{part_checks}

one_found : (c : CheckResult) (a b : Columns) → c ≡ Ok a → c ≡ Ok b → a ≡ b
one_found c a b h k = cc

one_more : (n k : ℕ) → k ≡ 1 + n → k ≡ n + 1
one_more n k e = omega (arith, e)

-- a node over an input of these columns
over_columns :
    (m q : Meaning) (cs made : Columns) (operator : Columns → TaggedRows → TaggedRows) (cost : ℕ → Meter) →
    q ≡ over_one m made (operator m.columns) cost → m.columns ≡ cs → q ≡ over_one m q.columns (operator cs) cost
over_columns m q cs made operator cost h of =
    h ∙ (λ k. over_one m (sym (ap (λ (x : Meaning). x.columns) h) k) (operator (of k)) cost)

module _ (schemas : List Columns) (p i : Plan) (name : List ℕ) (kind : RankKind) (column : List ℕ) (is : p ≡ plans.Rank i name kind column) where
  pub rank_over : (cs : Columns) → (meaning schemas i).columns ≡ cs → IsPlanOver schemas i p (ranked cs name kind (column_index column cs)) (λ d. no_work)
  rank_over cs of = record {
    scans = at_rank ℕ plan_scans_step p i name kind column is;
    nodes_are = one_more (nodes i) (nodes p) (at_rank ℕ nodes_step p i name kind column is);
    means =
        over_columns (meaning schemas i) (meaning schemas p) cs (with_columns (meaning schemas i).columns ((name, dtype.Int) ∷ []))
        (λ cs. ranked cs name kind (column_index column cs)) (λ d. no_work) (at_rank Meaning (meaning_step schemas) p i name kind column is) of;
  }

  pub rank_columns : (cs made : Columns) → plan_check i schemas ≡ Ok cs → plan_check p schemas ≡ Ok made → made ≡ with_columns cs ((name, dtype.Int) ∷ [])
  rank_columns cs made below checks =
      let parts =
      part_checks schemas p i (λ cs. rank_check cs name column) made checks (at_rank CheckResult (check_step schemas) p i name kind column is)
      (at_rank ℕ plan_levels_step p i name kind column is) (at_rank ℕ plan_scans_step p i name kind column is) in
      (rank_found name column parts.0 made parts.1.1).0 ∙ ap (λ (x : Columns). with_columns x ((name, dtype.Int) ∷ [])) (one_found (plan_check i schemas) parts.0 cs parts.1.0 below)

module _ (schemas : List Columns) (p i : Plan) (name column : List ℕ) (is : p ≡ plans.CumSum i name column) where
  pub sum_over : (cs : Columns) → (meaning schemas i).columns ≡ cs → IsPlanOver schemas i p (summed cs name column) (λ d. no_work)
  sum_over cs of = record {
    scans = at_sum ℕ plan_scans_step p i name column is;
    nodes_are = one_more (nodes i) (nodes p) (at_sum ℕ nodes_step p i name column is);
    means =
        over_columns (meaning schemas i) (meaning schemas p) cs (with_columns (meaning schemas i).columns ((name, dtype.Wide) ∷ []))
        (λ cs. summed cs name column) (λ d. no_work) (at_sum Meaning (meaning_step schemas) p i name column is) of;
  }

  pub sum_columns : (cs made : Columns) → plan_check i schemas ≡ Ok cs → plan_check p schemas ≡ Ok made → made ≡ with_columns cs ((name, dtype.Wide) ∷ [])
  sum_columns cs made below checks =
      let parts =
      part_checks schemas p i (λ cs. cum_sum_check cs name column) made checks (at_sum CheckResult (check_step schemas) p i name column is)
      (at_sum ℕ plan_levels_step p i name column is) (at_sum ℕ plan_scans_step p i name column is) in
      (cum_sum_found name column parts.0 made parts.1.1).0 ∙ ap (λ (x : Columns). with_columns x ((name, dtype.Wide) ∷ [])) (one_found (plan_check i schemas) parts.0 cs parts.1.0 below)

chosen_so : (b : Bool) (c : CheckResult) (f : PlanFault) (cs : Columns) → cond {A = CheckResult} b c (Err f) ≡ Ok cs → b ≡ true
chosen_so true c f cs h = refl
chosen_so false c f cs h = cc

first_so : (a b : Bool) → (a && b) ≡ true → a ≡ true
first_so true b h = refl
first_so false b h = h

second_so : (a b c : Bool) → (a && (b && c)) ≡ true → b ≡ true
second_so true true c h = refl
second_so true false c h = h
second_so false b c h = cc

size_within : (w : ℤ) → int_le w (pos 65536) ≡ true → size_of w ≤ 65536
size_within (pos n) h = grind (nat_tests, arith)
size_within (negsuc n) h = omega arith

size_some : (w : ℤ) → int_le (pos 1) w ≡ true → 1 ≤ size_of w
size_some (pos n) h = grind (nat_tests, arith)
size_some (negsuc n) h = cc

module _ (schemas : List Columns) (p i : Plan) (name : List ℕ) (kind : RollKind) (column : List ℕ) (w m : ℤ) (is : p ≡ plans.Rolling i name kind column w m) where
  pub rolling_over : (cs : Columns) → (meaning schemas i).columns ≡ cs →
      IsPlanOver schemas i p (rolled cs name kind column (size_of w) (size_of m)) (λ d. windows (d * size_of w))
  rolling_over cs of = record {
    scans = at_rolling ℕ plan_scans_step p i name kind column w m is;
    nodes_are = one_more (nodes i) (nodes p) (at_rolling ℕ nodes_step p i name kind column w m is);
    means =
        over_columns (meaning schemas i) (meaning schemas p) cs (with_columns (meaning schemas i).columns ((name, rolling_dtype kind) ∷ []))
        (λ cs. rolled cs name kind column (size_of w) (size_of m)) (λ d. windows (d * size_of w))
        (at_rolling Meaning (meaning_step schemas) p i name kind column w m is) of;
  }

  rolling_part : (made : Columns) → plan_check p schemas ≡ Ok made → (cs : Columns) × ((plan_check i schemas ≡ Ok cs) × (rolling_check cs name kind column w m ≡ Ok made))
  rolling_part made checks =
      part_checks schemas p i (λ cs. rolling_check cs name kind column w m) made checks (at_rolling CheckResult (check_step schemas) p i name kind column w m is)
      (at_rolling ℕ plan_levels_step p i name kind column w m is) (at_rolling ℕ plan_scans_step p i name kind column w m is)

  pub rolling_columns : (cs made : Columns) → plan_check i schemas ≡ Ok cs → plan_check p schemas ≡ Ok made → made ≡ with_columns cs ((name, rolling_dtype kind) ∷ [])
  rolling_columns cs made below checks =
      let part = rolling_part made checks in
      (roll_found name kind column w m part.0 made part.1.1).0
      ∙ ap (λ (x : Columns). with_columns x ((name, rolling_dtype kind) ∷ [])) (one_found (plan_check i schemas) part.0 cs part.1.0 below)

  pub rolling_typed : (cs made : Columns) → plan_check i schemas ≡ Ok cs → plan_check p schemas ≡ Ok made → column_dtype column cs ≡ Some dtype.Int
  rolling_typed cs made below checks =
      let part = rolling_part made checks in
      ap (column_dtype column) (sym (one_found (plan_check i schemas) part.0 cs part.1.0 below)) ∙ (roll_found name kind column w m part.0 made part.1.1).1

  is_within : (made : Columns) → plan_check p schemas ≡ Ok made → is_window w m ≡ true
  is_within made checks =
      let part = rolling_part made checks in
      let put = output_column_check part.0 name (rolling_dtype kind) (int_column_dtype column (column_dtype column part.0)) in
      chosen_so (is_window w m) put fault.BadWindow made part.1.1

  -- the check takes no window of no row
  pub rolling_some : (made : Columns) → plan_check p schemas ≡ Ok made → 1 ≤ size_of w
  rolling_some made checks =
      size_some w (first_so (int_le (pos 1) w) (int_le w (pos 65536) && (int_le (pos 1) m && int_le m w)) (is_within made checks))

  -- and no larger one
  pub rolling_few : (made : Columns) → plan_check p schemas ≡ Ok made → size_of w ≤ 65536
  rolling_few made checks =
      size_within w (second_so (int_le (pos 1) w) (int_le w (pos 65536)) (int_le (pos 1) m && int_le m w) (is_within made checks))

-- a node of windows, by other words for its sizes
pub windows_as :
    (n : LiveOperator) (columns : Columns) (name : List ℕ) (kind : RollKind) (column : List ℕ) (v k w m : ℕ) → v ≡ w → k ≡ m →
    IsNodeOf n columns (rolled columns name kind column v k) (λ d. windows (d * v)) →
    IsNodeOf n columns (rolled columns name kind column w m) (λ d. windows (d * w))
windows_as n columns name kind column v k w m e f h =
    subst (λ (w : ℕ). IsNodeOf n columns (rolled columns name kind column w m) (λ d. windows (d * w))) e
    (subst (λ (m : ℕ). IsNodeOf n columns (rolled columns name kind column v m) (λ d. windows (d * v))) f h)
