-- Plans are read as they were before they were written.
use Rattle.std.proofs.Common.{◌≡◌, ◌∙◌, ℕ, Bool, true, false, List, [], ◌∷◌, ◌++◌, Result, Ok, Err, ap, arith, codes, inl, inr, length, map, refl, subst, sym, ◌+◌}
use Rattle.std.specs.Prelude.{ℤ, ◌&&◌, Option, Some, None, nat_le, nat_lt}
use Rattle.std.proofs.lemmas.Bool.{and_parts, cases_Bool}
use Rattle.std.proofs.lemmas.Bool.Decides.{nat_tests}
use Rattle.std.proofs.lemmas.List.{length-append}
use Rattle.toml.specs.Data.{Data, string}
use Rattle.toml.specs.View.{items_of}
use Rattle.df_value.specs.Names.{index_of_name}
use Rattle.df_value.specs.Outcomes.{then_next}
use Rattle.df_expr.specs.declared.expr.Expr.{Expr}
use Rattle.df_ops.specs.declared.agg.Agg.{Agg}
use Rattle.df_ops.specs.declared.joins.How.{How}
use Rattle.df_ops.specs.declared.joins.How.TheVariants as how
use Rattle.df_ops.specs.declared.ranks.RankKind.{RankKind}
use Rattle.df_ops.specs.declared.ranks.RankKind.TheVariants as rank
use Rattle.df_ops.specs.declared.windows.RollKind.{RollKind}
use Rattle.df_ops.specs.declared.windows.RollKind.TheVariants as roll
use Rattle.df_plan.specs.declared.plan.Plan.{Plan}
use Rattle.df_plan.specs.declared.plan.Plan.TheFolds.{fold-roll-Plan, ind-Plan, map-Plan}
use Rattle.df_plan.specs.declared.plan.Plan.TheOpen.{Plan-F}
use Rattle.df_plan.specs.declared.plan.Plan.TheVariants as plan
use Rattle.df_plan.specs.declared.plan.Plan.TheViews.{roll-Plan}
use Rattle.df_text.proofs.TreeFacts.{list_of-items}
use Rattle.df_text.specs.Locations.{item_at, step_at}
use Rattle.df_text.specs.Sources.{found_frame, frame_named, most_steps}
use Rattle.df_text.specs.Steps.{side_of, step_of, steps_after}
use Rattle.df_text.specs.Tree.{keys_pass, list_of}
use Rattle.df_text.specs.declared.document.FrameSpec.{FrameSpec}
use Rattle.df_text.specs.declared.document.Location.{Location}
use Rattle.df_text.specs.declared.fault.ViewsFault.{ViewsFault}
use Rattle.df_writing.specs.ExpressionData.{aggregate_data, expr_data, operand_data, output_data, triple_data}
use Rattle.df_writing.specs.Sayable.{IsReadBack, Sayable, and_said, are_said, can_be_said, is_index, is_named, is_said, sayable, sayable_step}
use Rattle.df_writing.specs.StepData.{Written, frame_name, group_by_data, has_any, join_data, outputs_data, rank_data, rolling_data, side_data, source_table, then_step, written, written_step}
use Rattle.df_writing.proofs.ReadExpressions.{aggregates_back, expr_back, names_back, outputs_back}

module _ (fs : List FrameSpec) where
  abbrev IsBack : Plan → Type 0
  IsBack p = (at : Location) → steps_after at 0 fs (plan.Scan (written fs p).source) (items_of (written fs p).steps) ≡ Ok p

  filter_back : (at : Location) (p : Plan) (e : Expr) → is_said e ≡ true → step_of at fs p (operand_data (codes "filter") (expr_data e)) ≡ Ok (plan.Filter p e)
  unfolding list_of
  filter_back at p e said = let is = expr_back e said (item_at at 1) in rw is refl

  select_back : (at : Location) (p : Plan) (outputs : List (List ℕ × Expr)) → are_said outputs ≡ true → step_of at fs p (outputs_data (codes "select") outputs) ≡ Ok (plan.Select p outputs)
  select_back at p outputs said = let are = outputs_back at [] outputs said in rw (list_of-items (map output_data outputs), are) refl

  with_columns_back :
      (at : Location) (p : Plan) (outputs : List (List ℕ × Expr)) → are_said outputs ≡ true → step_of at fs p (outputs_data (codes "with_columns") outputs) ≡ Ok (plan.WithColumns p outputs)
  with_columns_back at p outputs said = let are = outputs_back at [] outputs said in rw (list_of-items (map output_data outputs), are) refl

  group_by_back : (at : Location) (p : Plan) (keys : List (List ℕ)) (aggs : List (List ℕ × Agg)) → step_of at fs p (group_by_data keys aggs) ≡ Ok (plan.GroupBy p keys aggs)
  unfolding list_of
  group_by_back at p keys aggs =
      let keyed = names_back (item_at at 1) keys in
      let are = aggregates_back at [] aggs in
      rw (list_of-items (map string keys), keyed, list_of-items (map aggregate_data aggs), are) refl

  rolling_back : (at : Location) (p : Plan) (output : List ℕ) (kind : RollKind) (column : List ℕ) (w m : ℤ) → step_of at fs p (rolling_data output kind column w m) ≡ Ok (plan.Rolling p output kind column w m)
  unfolding list_of
  rolling_back at p output roll.Sum column w m = refl
  rolling_back at p output roll.Min column w m = refl
  rolling_back at p output roll.Max column w m = refl

  cum_sum_back : (at : Location) (p : Plan) (output column : List ℕ) → step_of at fs p (triple_data (string (codes "cum_sum")) (string output) (string column)) ≡ Ok (plan.CumSum p output column)
  unfolding list_of
  cum_sum_back at p output column = refl

  rank_back : (at : Location) (p : Plan) (output : List ℕ) (kind : RankKind) (column : List ℕ) → step_of at fs p (rank_data output kind column) ≡ Ok (plan.Rank p output kind column)
  unfolding list_of
  rank_back at p output rank.Dense column = refl
  rank_back at p output rank.Min column = refl

  join_back :
      (at : Location) (p right : Plan) (d : Data) (h : How) (keys : List (List ℕ)) (equal : Bool) → ((at : Location) → side_of at fs d ≡ Ok right)
      → step_of at fs p (join_data d h keys equal) ≡ Ok (plan.Join p right h keys equal)
  join_back at p right d how.Inner keys true side =
      let keyed = names_back (item_at at 2) keys in let is = side (item_at at 3) in rw (list_of-items (map string keys), keyed, is) refl
  join_back at p right d how.Inner keys false side =
      let keyed = names_back (item_at at 2) keys in let is = side (item_at at 3) in rw (list_of-items (map string keys), keyed, is) refl
  join_back at p right d how.Left keys true side =
      let keyed = names_back (item_at at 2) keys in let is = side (item_at at 3) in rw (list_of-items (map string keys), keyed, is) refl
  join_back at p right d how.Left keys false side =
      let keyed = names_back (item_at at 2) keys in let is = side (item_at at 3) in rw (list_of-items (map string keys), keyed, is) refl

  through :
      (r : Result Plan ViewsFault) (before after : Plan) (next more : Plan → Result Plan ViewsFault) → then_next r next ≡ Ok before → ((q : Plan) → next q ≡ Ok before → more q ≡ Ok after)
      → then_next r more ≡ Ok after
  through (Ok q) before after next more first then = then q first
  through (Err f) before after next more first then = absurd (cc)

  -- one more step, whichever number it has
  more_back :
      (at : Location) (n : ℕ) (p before after : Plan) (ds : List Data) (d : Data) → steps_after at n fs p (items_of ds) ≡ Ok before → ((at : Location) → step_of at fs before d ≡ Ok after)
      → steps_after at n fs p (items_of (ds ++ d ∷ [])) ≡ Ok after
  more_back at n p before after [] d first last =
      let same : p ≡ before = cc in
      let is = last (step_at at n) in
      rw (same, is) refl
  more_back at n p before after (e ∷ ds) d first last =
      through (step_of (step_at at n) fs p e) before after (λ next. steps_after at (n + 1) fs next (items_of ds)) (λ next. steps_after at (n + 1) fs next (items_of (ds ++ d ∷ []))) first
      (λ q rest. more_back at (n + 1) q before after ds d rest last)

  side_table :
      (at : Location) (source : ℕ) (name : List ℕ) (ds : List Data) (right : Plan) → frame_named at name fs ≡ Ok source → nat_lt most_steps (length ds) ≡ false
      → steps_after at 0 fs (plan.Scan source) (items_of ds) ≡ Ok right → side_of at fs (source_table name ds) ≡ Ok right
  unfolding keys_pass
  side_table at source name ds right named few is = rw (list_of-items ds, few, named, is) refl

  no_steps : (ds : List Data) → has_any ds ≡ false → ds ≡ []
  no_steps [] none = refl
  no_steps (d ∷ ds) none = absurd (cc)

  -- of a plan: how many steps it has; and, where a document can say it, its frame by its name, and the plan
  record Back (p : Plan) : Type 0 where
    named : (at : Location) → frame_named at (frame_name fs (written fs p).source) fs ≡ Ok (written fs p).source
    back : IsBack p

  abbrev Reads : Plan → Type 0
  Reads p = ((sayable fs p).steps ≡ length (written fs p).steps) × ((sayable fs p).said ≡ true → Back p)

  few_steps : (n m : ℕ) → n ≡ m → nat_le n most_steps ≡ true → nat_lt most_steps m ≡ false
  few_steps n m same few = grind (arith, nat_tests)

  side_back : (p : Plan) → Reads p → ((sayable fs p).said && nat_le (sayable fs p).steps most_steps) ≡ true → (at : Location) → side_of at fs (side_data fs (written fs p)) ≡ Ok p
  side_back p reads h at =
      let (said, few) = and_parts (sayable fs p).said (nat_le (sayable fs p).steps most_steps) h in
      let b = reads.1 said in
      elim (cases_Bool (has_any (written fs p).steps)) [
        | inl some ↦
            rw some (side_table at (written fs p).source (frame_name fs (written fs p).source) (written fs p).steps p (b.named at) (few_steps _ _ reads.0 few) (b.back at))
        | inr none ↦
            let is = rw (no_steps (written fs p).steps none) at (b.back at) in
            rw (none, b.named at) is
      ]

  one_more :
      (p after : Plan) (said : Bool) (d : Data) → sayable fs after ≡ and_said (sayable fs p) said → written fs after ≡ then_step (written fs p) d → Reads p
      → (said ≡ true → (at : Location) → step_of at fs p d ≡ Ok after) → Reads after
  one_more p after said d sum is reads last = (
    (let count = reads.0 in let longer = length-append (written fs p).steps (d ∷ []) in rw (sum, is) (omega arith)),
    (λ h.
        let (before, own) = and_parts (sayable fs p).said said (ap (λ (s : Sayable). s.said) (sym sum) ∙ h) in
        let b = reads.1 before in
        record {
          named = λ at. rw is (b.named at);
          back = λ at. rw is (more_back at 0 (plan.Scan (written fs p).source) p after (written fs p).steps d (b.back at) (last own));
        }),
  )

  found_back : (at : Location) (o : Option ℕ) (i : ℕ) → is_index o i ≡ true → found_frame at o ≡ Ok i
  found_back at None i h = absurd (cc)
  found_back at (Some j) i h = let same : j ≡ i = grind (arith, nat_tests) in ap Ok same

  scan_named : (at : Location) (i : ℕ) → is_named fs i ≡ true → frame_named at (frame_name fs i) fs ≡ Ok i
  unfolding frame_named
  scan_named at i h = found_back at (index_of_name (λ (f : FrameSpec). f.name) (frame_name fs i) fs) i h

  abbrev Part : Type 0
  Part = (p : Plan) × Reads p

  abbrev sum_of : (y : Plan-F Part) → sayable fs (roll-Plan (map-Plan Part Plan (λ p. p.0) y)) ≡ sayable_step fs (map-Plan Plan Sayable (sayable fs) (map-Plan Part Plan (λ p. p.0) y))
  sum_of y = fold-roll-Plan Sayable (sayable_step fs) (map-Plan Part Plan (λ p. p.0) y)

  abbrev text_of : (y : Plan-F Part) → written fs (roll-Plan (map-Plan Part Plan (λ p. p.0) y)) ≡ written_step fs (map-Plan Plan Written (written fs) (map-Plan Part Plan (λ p. p.0) y))
  text_of y = fold-roll-Plan Written (written_step fs) (map-Plan Part Plan (λ p. p.0) y)

  step : (y : Plan-F Part) → Reads (roll-Plan (map-Plan Part Plan (λ p. p.0) y))
  unfolding roll-Plan denote.Hole.Carrier.roll
  step (Plan-F.Scan i) = (
    rw (fold-roll-Plan Sayable (sayable_step fs), fold-roll-Plan Written (written_step fs)) refl,
    (λ h.
        let said = rw (fold-roll-Plan Sayable (sayable_step fs)) at h in
        record {
          named = λ at. rw (fold-roll-Plan Written (written_step fs)) (scan_named at i said);
          back = λ at. rw (fold-roll-Plan Written (written_step fs)) refl;
        }),
  )
  step (Plan-F.Filter p e) = one_more p.0 _ (is_said e) _ (sum_of (Plan-F.Filter p e)) (text_of (Plan-F.Filter p e)) p.1 (λ said at. filter_back at p.0 e said)
  step (Plan-F.Select p outputs) = one_more p.0 _ (are_said outputs) _ (sum_of (Plan-F.Select p outputs)) (text_of (Plan-F.Select p outputs)) p.1 (λ said at. select_back at p.0 outputs said)
  step (Plan-F.WithColumns p outputs) =
      one_more p.0 _ (are_said outputs) _ (sum_of (Plan-F.WithColumns p outputs)) (text_of (Plan-F.WithColumns p outputs)) p.1 (λ said at. with_columns_back at p.0 outputs said)
  step (Plan-F.GroupBy p keys aggs) = one_more p.0 _ true _ (sum_of (Plan-F.GroupBy p keys aggs)) (text_of (Plan-F.GroupBy p keys aggs)) p.1 (λ said at. group_by_back at p.0 keys aggs)
  step (Plan-F.Join p right h keys equal) =
      one_more p.0 _ _ _ (sum_of (Plan-F.Join p right h keys equal)) (text_of (Plan-F.Join p right h keys equal)) p.1
      (λ said at. join_back at p.0 right.0 (side_data fs (written fs right.0)) h keys equal (side_back right.0 right.1 said))
  step (Plan-F.Rolling p output kind column w m) =
      one_more p.0 _ true _ (sum_of (Plan-F.Rolling p output kind column w m)) (text_of (Plan-F.Rolling p output kind column w m)) p.1 (λ said at. rolling_back at p.0 output kind column w m)
  step (Plan-F.CumSum p output column) = one_more p.0 _ true _ (sum_of (Plan-F.CumSum p output column)) (text_of (Plan-F.CumSum p output column)) p.1 (λ said at. cum_sum_back at p.0 output column)
  step (Plan-F.Rank p output kind column) =
      one_more p.0 _ true _ (sum_of (Plan-F.Rank p output kind column)) (text_of (Plan-F.Rank p output kind column)) p.1 (λ said at. rank_back at p.0 output kind column)

  reads_back : (p : Plan) → Reads p
  reads_back = ind-Plan Reads (λ x y is. subst (λ z. Reads (roll-Plan z)) is (step y))

-- what is written of a plan that a document can say is read as this plan
pub plan_back : (fs : List FrameSpec) (p : Plan) → can_be_said fs p ≡ true → IsReadBack fs p
unfolding IsReadBack
plan_back fs p said = ((reads_back fs p).1 said).back
