-- What a checked plan is that is a filter, select, with_columns or group-by of the plan below.
use Rattle.std.proofs.Common.{◌≡◌, ℕ, ◌+◌, ◌*◌, ◌≤◌, Bool, true, false, cond, not, List, [], ◌∷◌, ◌++◌, length, map, filter, refl, sym, ap, subst, ◌∙◌, arith}
use Rattle.std.specs.Prelude.{Result, Ok, Err, IfOk, Option, Some, None, ◌||◌, nat_lt}
use Rattle.std.specs.Str.{bytes_eq}
use Rattle.std.proofs.lemmas.List.{length-append, length-map}
use Rattle.std.proofs.lemmas.List.Filters.{length-filter_both}
use Rattle.std.proofs.lemmas.List.Folds.{list_any-append}
use Rattle.std.proofs.lemmas.Slice.Eq.{bytes_eq-Decides}
use Rattle.df_value.specs.Choices.{by_test}
use Rattle.df_value.specs.Names.{AreDistinct, distinct-head}
use Rattle.df_value.specs.Outcomes.{then_next}
use Rattle.df_value.specs.Schemas.{Columns, doubled_column_after}
use Rattle.df_value.specs.declared.cell.CellType.{CellType}
use Rattle.df_expr.specs.declared.expr.Expr.{Expr}
use Rattle.df_expr.specs.declared.meter.Meter.{Meter}
use Rattle.df_ops.specs.NamedColumns.{added_or_own, column_indices, has_column, with_columns}
use Rattle.df_ops.specs.RowWise.{item_column, select_row, with_columns_row, with_columns_schema}
use Rattle.df_ops.specs.Tables.{group_by_columns}
use Rattle.df_ops.specs.declared.agg.Agg.{Agg}
use Rattle.df_column.specs.Tables.{TaggedRows}
use Rattle.df_delta.specs.Work.{evaluations}
use Rattle.df_group.specs.GroupRows.{group_output}
use Rattle.df_group.specs.Work.{finishes}
use Rattle.df_nodes.specs.Outputs.{filtered, mapped}
use Rattle.df_plan.specs.Checks.{CheckResult, check_step, columns_of, plan_check, plan_scans, plan_scans_step, select_check, to_schema, to_schema_unless, added_columns_check, with_columns_check}
use Rattle.df_plan.specs.ItemChecks.{ColumnResult, columns_after, select_column_result, with_column, with_columns_column_result}
use Rattle.df_plan.specs.declared.fault.PlanFault.{PlanFault}
use Rattle.df_plan.specs.declared.fault.PlanFault.TheVariants as fault
use Rattle.df_plan.specs.declared.plan.Plan.{Plan}
use Rattle.df_plan.specs.declared.plan.Plan.TheVariants as plans
use Rattle.df_plan.proofs.Found.{checked_columns, then_ok}
use Rattle.df_live.specs.declared.building.Fresh.{Fresh}
use Rattle.df_live.specs.declared.operator.LiveOperator.{LiveOperator}
use Rattle.df_live.specs.Fresh.{IsFreshFor, IsNodeOf, IsPlanOver, nodes, nodes_step}
use Rattle.df_live.specs.Meaning.{Meaning, meaning, meaning_step, over_one}
use Rattle.df_live.proofs.Folding.{at_filter, at_group, at_select, at_with}
use Rattle.df_live.proofs.PartColumns.{meant_columns}

-- the list without what a test tells is the empty one
fails_all : (xs : Columns) → length (filter (λ x. false) xs) ≤ 0
fails_all [] = omega arith
fails_all (x ∷ xs) = fails_all xs

first_true : (a b : Bool) → a ≡ true → (a || b) ≡ true
first_true true b h = refl
first_true false b h = cc

last_true : (a b : Bool) → b ≡ true → (a || b) ≡ true
last_true true b h = refl
last_true false b h = h

one_more :
    {X : Type 0} (b c : Bool) (x : X) (r s t : List X) → length r ≤ length s + length t →
    length (cond (b || c) (x ∷ r) r) ≤ length (cond b (x ∷ s) s) + length (cond c (x ∷ t) t)
one_more true true x r s t h = omega (arith, h)
one_more true false x r s t h = omega (arith, h)
one_more false true x r s t h = omega (arith, h)
one_more false false x r s t h = h

-- what one of two tests tells, is told by the first or by the second
of_either : {X : Type 0} (p q : X → Bool) (xs : List X) → length (filter (λ x. p x || q x) xs) ≤ length (filter p xs) + length (filter q xs)
of_either p q [] = omega arith
of_either p q (x ∷ xs) = one_more (p x) (q x) x (filter (λ x. p x || q x) xs) (filter p xs) (filter q xs) (of_either p q xs)

abbrev Apart : Columns → Columns → Type 0
Apart seen cs = AreDistinct (λ c. c.0) seen cs

not_both : (b : Bool) → b ≡ true → b ≡ false → ⊥
not_both true h k = cc
not_both false h k = cc

-- a name that was seen stands nowhere in the rest
seen_name : (n : List ℕ) (seen xs : Columns) → Apart seen xs → has_column n seen ≡ true → length (filter (λ a. bytes_eq n a.0) xs) ≤ 0
seen_name n seen [] d h = omega arith
seen_name n seen (x ∷ xs) d h =
    let head = distinct-head (λ c. c.0) seen x xs d in
    by_test (λ (l : Columns). length l ≤ 0) (bytes_eq n x.0) (x ∷ filter (λ a. bytes_eq n a.0) xs) (filter (λ a. bytes_eq n a.0) xs)
    (λ e. absurd (not_both (has_column n seen) h (subst (λ m. has_column m seen ≡ false) (sym ((bytes_eq-Decides n x.0).0 e)) head.0)))
    (λ e. seen_name n (seen ++ x ∷ []) xs head.1
    (list_any-append (λ c. bytes_eq c.0 n) seen (x ∷ []) ∙ first_true (has_column n seen) (has_column n (x ∷ [])) h))

-- and any name at most once
one_of_name : (n : List ℕ) (seen xs : Columns) → Apart seen xs → length (filter (λ a. bytes_eq n a.0) xs) ≤ 1
one_of_name n seen [] d = omega arith
one_of_name n seen (x ∷ xs) d =
    let head = distinct-head (λ c. c.0) seen x xs d in
    by_test (λ (l : Columns). length l ≤ 1) (bytes_eq n x.0) (x ∷ filter (λ a. bytes_eq n a.0) xs) (filter (λ a. bytes_eq n a.0) xs)
    (λ e. let same : bytes_eq x.0 n ≡ true = (bytes_eq-Decides x.0 n).1 (sym ((bytes_eq-Decides n x.0).0 e)) in
    let stands : has_column n (seen ++ x ∷ []) ≡ true =
    list_any-append (λ c. bytes_eq c.0 n) seen (x ∷ [])
    ∙ last_true (has_column n seen) (has_column n (x ∷ [])) (first_true (bytes_eq x.0 n) false same) in
    omega (arith, seen_name n (seen ++ x ∷ []) xs head.1 stands))
    (λ e. one_of_name n (seen ++ x ∷ []) xs head.1)

-- so distinct columns that have the names of others are no more than those
standing_few : (own added : Columns) → Apart [] added → length (filter (λ a. has_column a.0 own) added) ≤ length own
standing_few [] added d = fails_all added
standing_few (o ∷ own) added d =
    let both = of_either (λ (a : List ℕ × CellType). bytes_eq o.0 a.0) (λ (a : List ℕ × CellType). has_column a.0 own) added in
    omega (arith, both, one_of_name o.0 [] added d, standing_few own added d)

-- all that is added stands in the result
added_few : (own added : Columns) → doubled_column_after [] added ≡ None → length added ≤ length (with_columns own added)
unfolding with_columns
added_few own added d =
    let new = filter (λ a. not (has_column a.0 own)) added in
    let parts = length-append (map (added_or_own added) own) new in
    let own_kept = length-map own (added_or_own added) in
    let both = length-filter_both (λ (a : List ℕ × CellType). has_column a.0 own) (λ a. not (has_column a.0 own)) (λ a. refl) added in
    omega (arith, parts, own_kept, both, standing_few own added d)

not_wide : (b : Bool) (cs o : Columns) (f : PlanFault) → cond {A = CheckResult} b (Err f) (Ok cs) ≡ Ok o → b ≡ false
not_wide true cs o f h = cc
not_wide false cs o f h = refl

-- what becomes a schema is not too wide, and no name was doubled
settled : (cs : Columns) (d : Option (List ℕ)) (o : Columns) → to_schema_unless cs d ≡ Ok o → (length cs ≤ 32) × (d ≡ None)
settled cs (Some name) o h = cc
settled [] None o h = cc
settled (c ∷ cs) None o h =
    let narrow : nat_lt 32 (length (c ∷ cs)) ≡ false = not_wide (nat_lt 32 (length (c ∷ cs))) (c ∷ cs) o fault.TooWide h in
    (grind (arith, narrow), refl)

with_ok :
    (r : ColumnResult) (next : List ℕ × CellType → CheckResult) (cs : Columns) → with_column r next ≡ Ok cs →
    (c : List ℕ × CellType) × (next c ≡ Ok cs)
with_ok (Ok c) next cs h = (c, h)
with_ok (Err f) next cs h = cc

-- a column for each item
each_made :
    {T : Type 0} (column : T → ColumnResult) (out : Columns) (xs : List T) (o : Columns) → columns_after column out xs ≡ Ok o →
    length o ≡ length out + length xs
each_made column out [] o h =
    let same : o ≡ out = cc in
    omega (arith, ap length same)
each_made column out (x ∷ xs) o h =
    let here = with_ok (column x) (λ c. columns_after column (out ++ c ∷ []) xs) o h in
    omega (arith, each_made column (out ++ here.0 ∷ []) xs o here.1, length-append out (here.0 ∷ []))

select_few : (is : Columns) (items : List (List ℕ × Expr)) (cs : Columns) → select_check is items ≡ Ok cs → length items ≤ 32
select_few is [] cs h = omega arith
select_few is (x ∷ xs) cs h =
    let first = then_ok (columns_after (select_column_result is) [] (x ∷ xs)) to_schema cs h in
    let made = each_made (select_column_result is) [] (x ∷ xs) first.0 first.1.0 in
    omega (arith, made, (settled first.0 (doubled_column_after [] first.0) cs first.1.1).0)

with_few : (is : Columns) (items : List (List ℕ × Expr)) (cs : Columns) → with_columns_check is items ≡ Ok cs → length items ≤ 32
with_few is items cs h =
    let first = then_ok (columns_after (with_columns_column_result is) [] items) (added_columns_check is) cs h in
    let made = each_made (with_columns_column_result is) [] items first.0 first.1.0 in
    let fine = settled (with_columns is first.0) (doubled_column_after [] first.0) cs first.1.1 in
    omega (arith, made, fine.0, added_few is first.0 fine.1)

-- a plan whose meaning is a node over that of the plan below, by the columns that the check found there
node_over :
    (schemas : List Columns) (i p : Plan) (is columns : Columns) (operator : Columns → TaggedRows → TaggedRows) (cost : ℕ → Meter) →
    plan_scans p ≡ plan_scans i → nodes p ≡ 1 + nodes i →
    meaning schemas p ≡ over_one (meaning schemas i) columns (operator (meaning schemas i).columns) cost →
    (meaning schemas i).columns ≡ is → IsPlanOver schemas i p (operator is) cost
node_over schemas i p is columns operator cost scans more means meant = record {
  scans = scans;
  nodes_are = omega (arith, more);
  means = means ∙ (λ k. over_one (meaning schemas i) (sym (ap (λ (m : Meaning). m.columns) means) k) (operator (meant k)) cost);
}

-- what the node's check gives of the columns below
next_checks :
    (schemas : List Columns) (i p : Plan) (is cs : Columns) (next : Columns → CheckResult) → plan_check i schemas ≡ Ok is →
    plan_check p schemas ≡ Ok cs → columns_of p schemas ≡ then_next (columns_of i schemas) next → next is ≡ Ok cs
next_checks schemas i p is cs next below checks at =
    sym (ap (λ (c : CheckResult). then_next c next) (checked_columns i schemas is below)) ∙ (sym at ∙ checked_columns p schemas cs checks)

module _ (schemas : List Columns) (i p : Plan) (is cs : Columns) (below : plan_check i schemas ≡ Ok is) (checks : plan_check p schemas ≡ Ok cs) where
  pub filter_over : (e : Expr) → p ≡ plans.Filter i e → IsPlanOver schemas i p (filtered is e) (λ d. evaluations (2 * d))
  filter_over e at =
      node_over schemas i p is (meaning schemas i).columns (λ columns. filtered columns e) (λ d. evaluations (2 * d))
      (at_filter ℕ plan_scans_step p i e at) (at_filter ℕ nodes_step p i e at)
      (at_filter Meaning (meaning_step schemas) p i e at) (meant_columns schemas i is below)

  pub group_over :
      (keys : List (List ℕ)) (aggs : List (List ℕ × Agg)) → p ≡ plans.GroupBy i keys aggs →
      IsPlanOver schemas i p (group_output is (column_indices is keys) aggs) (λ d. finishes (2 * d))
  group_over keys aggs at =
      node_over schemas i p is (group_by_columns (meaning schemas i).columns keys aggs)
      (λ columns. group_output columns (column_indices columns keys) aggs) (λ d. finishes (2 * d))
      (at_group ℕ plan_scans_step p i keys aggs at) (at_group ℕ nodes_step p i keys aggs at)
      (at_group Meaning (meaning_step schemas) p i keys aggs at) (meant_columns schemas i is below)

  pub select_over :
      (items : List (List ℕ × Expr)) → p ≡ plans.Select i items →
      IsPlanOver schemas i p (mapped (select_row is items)) (λ d. evaluations (2 * d * length items))
  select_over items at =
      node_over schemas i p is (map (item_column (meaning schemas i).columns) items) (λ columns. mapped (select_row columns items))
      (λ d. evaluations (2 * d * length items)) (at_select ℕ plan_scans_step p i items at) (at_select ℕ nodes_step p i items at)
      (at_select Meaning (meaning_step schemas) p i items at) (meant_columns schemas i is below)

  select_fine : (items : List (List ℕ × Expr)) → p ≡ plans.Select i items → select_check is items ≡ Ok cs
  select_fine items at =
      next_checks schemas i p is cs (λ columns. select_check columns items) below checks (at_select CheckResult (check_step schemas) p i items at)

  pub select_items : (items : List (List ℕ × Expr)) → p ≡ plans.Select i items → length items ≤ 32
  select_items items at = select_few is items cs (select_fine items at)

  pub with_over :
      (items : List (List ℕ × Expr)) → p ≡ plans.WithColumns i items →
      IsPlanOver schemas i p (mapped (with_columns_row is items)) (λ d. evaluations (2 * d * length items))
  with_over items at =
      node_over schemas i p is (with_columns_schema (meaning schemas i).columns items) (λ columns. mapped (with_columns_row columns items))
      (λ d. evaluations (2 * d * length items)) (at_with ℕ plan_scans_step p i items at) (at_with ℕ nodes_step p i items at)
      (at_with Meaning (meaning_step schemas) p i items at) (meant_columns schemas i is below)

  with_fine : (items : List (List ℕ × Expr)) → p ≡ plans.WithColumns i items → with_columns_check is items ≡ Ok cs
  with_fine items at =
      next_checks schemas i p is cs (λ columns. with_columns_check columns items) below checks (at_with CheckResult (check_step schemas) p i items at)

  pub with_items : (items : List (List ℕ × Expr)) → p ≡ plans.WithColumns i items → length items ≤ 32
  with_items items at = with_few is items cs (with_fine items at)

-- a made tree of the node over the tree below
pub tree_over :
    {E F : Type 0} (r : Result Fresh E) (node : Result LiveOperator F) (input : Fresh) (schemas : List Columns) (i p : Plan) (schema : Columns)
    (operator : TaggedRows → TaggedRows) (cost : ℕ → Meter) →
    IfOk r (λ f.
    (schemas : List Columns) (i p : Plan) (operator : TaggedRows → TaggedRows) (cost : ℕ → Meter) → IsFreshFor input i schemas →
    plan_check p schemas ≡ Ok schema → IsPlanOver schemas i p operator cost → IfOk node (λ n. IsNodeOf n input.schema operator cost) → IsFreshFor f p schemas) →
    IsFreshFor input i schemas → plan_check p schemas ≡ Ok schema → IsPlanOver schemas i p operator cost →
    IfOk node (λ n. IsNodeOf n input.schema operator cost) → IfOk r (λ f. IsFreshFor f p schemas)
tree_over (Ok f) node input schemas i p schema operator cost h below checks plan is = h schemas i p operator cost below checks plan is
tree_over (Err e) node input schemas i p schema operator cost h below checks plan is = tt
