-- What is read of a view document, a document can say.
use Rattle.std.proofs.Common.{◌≡◌, ◌≤◌, ◌+◌, ◌∙◌, ℕ, suc, Bool, true, false, cond, List, [], ◌∷◌, Option, Some, None, Result, Ok, Err, IfOk, Ordering, Less, Equal, Greater, ap, arith, codes, length, nat_lt, refl, rules, subst, sym}
use Rattle.std.specs.Prelude.{ℤ, ◌&&◌, nat_le, position, slice_get}
use Rattle.std.specs.List.{All, list_all}
use Rattle.std.specs.Cmp.Lexicographic.{slice_cmp}
use Rattle.std.specs.Ordering.{match_ordering, nat_cmp}
use Rattle.std.specs.Str.{bytes_eq}
use Rattle.std.proofs.lemmas.Bool.Decides.{nat_tests}
use Rattle.std.proofs.lemmas.List.Quantifiers.{position-Some}
use Rattle.std.proofs.lemmas.List.Sums.{list_all-from_AllPass}
use Rattle.std.proofs.lemmas.Option.{slice_get-get_or}
use Rattle.std.proofs.lemmas.Slice.Eq.{bytes_eq-Decides}
use Rattle.toml.specs.Data.{Data, string, integer, float, boolean, datetime, array, table, Items, no_items, item, Members, no_members, member, get_member}
use Rattle.df_value.specs.Names.{index_of_name}
use Rattle.df_value.specs.Outcomes.{then_next}
use Rattle.df_value.specs.declared.cell.Cell.TheVariants as cell
use Rattle.df_value.specs.declared.cell.CellType.{CellType}
use Rattle.df_value.specs.declared.cell.CellType.TheVariants as dtype
use Rattle.df_expr.specs.declared.expr.Expr.{Expr}
use Rattle.df_expr.specs.declared.expr.Expr as exprs
use Rattle.df_expr.specs.declared.expr.Expr.TheVariants as expr
use Rattle.df_ops.specs.declared.agg.Agg.{Agg}
use Rattle.df_ops.specs.declared.joins.How.{How}
use Rattle.df_ops.specs.declared.ranks.RankKind.{RankKind}
use Rattle.df_ops.specs.declared.windows.RollKind.{RollKind}
use Rattle.df_plan.specs.declared.plan.Plan.{Plan}
use Rattle.df_plan.specs.declared.plan.Plan as plans
use Rattle.df_plan.specs.declared.plan.Plan.TheVariants as plan
use Rattle.df_text.specs.AggregateItems.{aggregates_in}
use Rattle.df_text.specs.Document.{entries_of_view, new_view_name, view_of}
use Rattle.df_text.specs.Expressions.{column_expr_of, expr_of, form_of, null_of, word_of}
use Rattle.df_text.specs.Frames.{dtype_of_word}
use Rattle.df_text.specs.Locations.{item_at, step_at}
use Rattle.df_text.specs.RowWiseSteps.{item_of, items_in, next_item_of}
use Rattle.df_text.specs.Sources.{array_or_none, found_frame, frame_named, most_steps, only_source_at, source_at, steps_of_table, steps_within}
use Rattle.df_text.specs.Steps.{all_steps, applied_step, keys_in, kind_and_keys, nulls_equal_of, side_of, step_of, step_of_word, steps_after, steps_at}
use Rattle.df_text.specs.Tree.{array_in, first_in, has_only_keys, list_of, only_in, pair_in, table_value, text_in, value_at}
use Rattle.df_text.specs.WindowSteps.{names_in, rank_parts, rolling_of, window_parts}
use Rattle.df_text.specs.declared.document.FrameSpec.{FrameSpec}
use Rattle.df_text.specs.declared.document.Location.{Location}
use Rattle.df_text.specs.declared.document.Location.TheVariants as location
use Rattle.df_text.specs.declared.document.ViewSpec.{ViewSpec}
use Rattle.df_text.specs.declared.expressions.BinaryWord.{BinaryWord}
use Rattle.df_text.specs.declared.expressions.BinaryWord.TheVariants as binary
use Rattle.df_text.specs.declared.expressions.ExprWord.{ExprWord}
use Rattle.df_text.specs.declared.expressions.ExprWord.TheVariants as form
use Rattle.df_text.specs.declared.expressions.UnaryWord.{UnaryWord}
use Rattle.df_text.specs.declared.expressions.UnaryWord.TheVariants as unary
use Rattle.df_text.specs.declared.fault.ViewsFault.{ViewsFault}
use Rattle.df_text.specs.declared.fault.ViewsFault.TheVariants as fault
use Rattle.df_text.specs.declared.view_steps.StepWord.{StepWord}
use Rattle.df_text.specs.declared.view_steps.StepWord.TheVariants as step_word
use Rattle.df_text.specs.Expressions.{binary_expr_of, unary_expr_of}
use Rattle.df_text.proofs.ReadFacts.{all_give, given, if_gives, then_gives}
use Rattle.df_writing.specs.Sayable.{AreSaid, Sayable, and_said, are_said, can_be_said, is_index, is_named, is_said, sayable}
use Rattle.df_writing.specs.StepData.{frame_name, name_of_frame}

abbrev IsSaid : Expr → Type 0
IsSaid e = is_said e ≡ true

both : (a b c : Bool) → a ≡ (b && c) → b ≡ true → c ≡ true → a ≡ true
both a b c e g h = rw (e, g, h) refl

said-Column : (name : List ℕ) → is_said (expr.Column name) ≡ true
said-Column name = search (rules, exprs.the_lemmas)

said-Int : (n : ℤ) → is_said (expr.Literal (cell.Int n) dtype.Int) ≡ true
said-Int n = search (rules, exprs.the_lemmas)

said-Bool : (b : Bool) → is_said (expr.Literal (cell.Bool b) dtype.Bool) ≡ true
said-Bool b = search (rules, exprs.the_lemmas)

said-Text : (s : List ℕ) → is_said (expr.Literal (cell.Text s) dtype.Text) ≡ true
said-Text s = search (rules, exprs.the_lemmas)

said-null : (a b c : Bool) (at : Location) (t : CellType) → cond a (Ok dtype.Int) (cond b (Ok dtype.Text) (cond c (Ok dtype.Bool) (Err (fault.Word at)))) ≡ Ok t → is_said (expr.Literal cell.Null t) ≡ true
said-null true b c at t e = let same : dtype.Int ≡ t = cc in rw (← same) (search (rules, exprs.the_lemmas))
said-null false true c at t e = let same : dtype.Text ≡ t = cc in rw (← same) (search (rules, exprs.the_lemmas))
said-null false false true at t e = let same : dtype.Bool ≡ t = cc in rw (← same) (search (rules, exprs.the_lemmas))
said-null false false false at t e = absurd (cc)

said-unary : (op : UnaryWord) (a : Expr) → is_said a ≡ true → is_said (unary_expr_of op a) ≡ true
said-unary unary.Not a h = search (rules, exprs.the_lemmas)
said-unary unary.IsNull a h = search (rules, exprs.the_lemmas)
said-unary unary.IsNotNull a h = search (rules, exprs.the_lemmas)

said-both : (op : BinaryWord) (a b : Expr) → is_said (binary_expr_of op a b) ≡ (is_said a && is_said b)
said-both (binary.Arith op) a b = search (rules, exprs.the_lemmas)
said-both (binary.Compare op) a b = search (rules, exprs.the_lemmas)
said-both binary.EqMissing a b = search (rules, exprs.the_lemmas)
said-both binary.And a b = search (rules, exprs.the_lemmas)
said-both binary.Or a b = search (rules, exprs.the_lemmas)
said-both binary.FillNull a b = search (rules, exprs.the_lemmas)

mutual
  -- an expression that is read can be said
  expr_said : (at : Location) (d : Data) → IfOk (expr_of at d) IsSaid
  expr_said at (integer n) = said-Int n
  expr_said at (boolean b) = said-Bool b
  expr_said at (string s) = said-Text s
  expr_said at (array ds) = then_gives _ (word_of at ds) _ (λ word _. form_said at word ds)
  expr_said at (float x) = tt
  expr_said at (datetime t) = tt
  expr_said at (table ms) = tt

  form_said : (at : Location) (word : ExprWord) (ds : Items) → IfOk (form_of at word ds) IsSaid
  form_said at form.Column (item w (item name no_items)) = then_gives _ (text_in at name) _ (λ n _. said-Column n)
  form_said at form.Column no_items = tt
  form_said at form.Column (item a no_items) = tt
  form_said at form.Column (item a (item b (item c ds))) = tt
  form_said at form.Null (item w (item t no_items)) =
      then_gives _ (text_in at t) _ (λ s _. then_gives _ (dtype_of_word at s) _ (λ t is. said-null _ _ _ at t is))
  form_said at form.Null no_items = tt
  form_said at form.Null (item a no_items) = tt
  form_said at form.Null (item a (item b (item c ds))) = tt
  form_said at (form.Unary op) (item w (item a no_items)) =
      then_gives _ (expr_of at a) _ (λ x is. said-unary op x (given IsSaid (expr_of at a) x (expr_said at a) is))
  form_said at (form.Unary op) no_items = tt
  form_said at (form.Unary op) (item a no_items) = tt
  form_said at (form.Unary op) (item a (item b (item c ds))) = tt
  form_said at (form.Binary op) (item w (item a (item b no_items))) =
      then_gives _ (expr_of at a) _ (λ x is. then_gives _ (expr_of at b) _ (λ y are.
      both _ _ _ (said-both op x y) (given IsSaid (expr_of at a) x (expr_said at a) is) (given IsSaid (expr_of at b) y (expr_said at b) are)))
  form_said at (form.Binary op) no_items = tt
  form_said at (form.Binary op) (item a no_items) = tt
  form_said at (form.Binary op) (item a (item b no_items)) = tt
  form_said at (form.Binary op) (item a (item b (item c (item d ds)))) = tt

item_said : (at : Location) (d : Data) → IfOk (item_of at d) (λ (o : List ℕ × Expr). is_said o.1 ≡ true)
item_said at d =
    then_gives _ (array_in at d) _ (λ ds _. then_gives _ (pair_in at ds) _ (λ p _. then_gives _ (text_in at p.0) _ (λ name _.
    then_gives _ (expr_of at p.1) _ (λ e is. given IsSaid (expr_of at p.1) e (expr_said at p.1) is))))

-- outputs that are read can be said
items_said : (at : Location) (ds : List Data) → IfOk (items_in at ds) (λ outputs. are_said outputs ≡ true)
items_said at ds = from (items_in at ds) (all_give (λ (o : List ℕ × Expr). is_said o.1 ≡ true) (next_item_of at) (λ before d. item_said (item_at at (length before + 1)) d) [] ds All-nil')
  where
    All-nil' : All (λ (o : List ℕ × Expr). is_said o.1 ≡ true) []
    All-nil' k d h = absurd (omega (arith, h))

    from : (r : Result (List (List ℕ × Expr)) ViewsFault) → IfOk r (λ outputs. All (λ (o : List ℕ × Expr). is_said o.1 ≡ true) outputs) → IfOk r (λ outputs. are_said outputs ≡ true)
    from (Ok outputs) all = list_all-from_AllPass (λ (o : List ℕ × Expr). is_said o.1) outputs all
    from (Err f) all = tt

-- how many steps a value has, and how many stand in a table
abbrev count_in : Data → ℕ
count_in (array ds) = length (list_of ds)
count_in d = 0

abbrev count_of : Members → ℕ
count_of no_members = 0
count_of (member k d ms) = match_ordering (slice_cmp nat_cmp (codes "steps") k) (count_of ms) (count_in d) (count_of ms)

abbrev count_found : Option Data → ℕ
count_found None = 0
count_found (Some d) = count_in d

count_at_key : (o : Ordering) (d : Data) (n : ℕ) (found : Option Data) → n ≡ count_found found → match_ordering o n (count_in d) n ≡ count_found (match_ordering o found (Some d) found)
count_at_key Less d n found e = e
count_at_key Equal d n found e = refl
count_at_key Greater d n found e = e

count_by_key : (ms : Members) → count_of ms ≡ count_found (get_member (codes "steps") ms)
count_by_key no_members = refl
count_by_key (member k d ms) = count_at_key (slice_cmp nat_cmp (codes "steps") k) d _ _ (count_by_key ms)

few_by_test : (b : Bool) (at : Location) (ds : List Data) → nat_lt most_steps (length ds) ≡ b → IfOk (cond b (Err (fault.Shape at)) (Ok ds)) (λ _. length ds ≤ most_steps)
few_by_test true at ds t = tt
few_by_test false at ds t = grind (arith, nat_tests)

few_found : (at : Location) (o : Option Data) → IfOk (then_next (array_or_none at o) (steps_within at)) (λ _. count_found o ≤ most_steps)
few_found at None = omega arith
few_found at (Some (array ds)) = few_by_test _ at (list_of ds) refl
few_found at (Some (string s)) = tt
few_found at (Some (integer n)) = tt
few_found at (Some (float x)) = tt
few_found at (Some (boolean b)) = tt
few_found at (Some (datetime t)) = tt
few_found at (Some (table ms)) = tt

-- a right side has few steps
few_steps : (at : Location) (ms : Members) → IfOk (only_source_at at ms) (λ _. count_of ms ≤ most_steps)
few_steps at ms =
    if_gives _ (has_only_keys (codes "from" ∷ codes "steps" ∷ []) ms) _ (fault.Shape at)
    (then_gives _ (value_at at (codes "from") ms) _ (λ d _. then_gives _ (text_in at d) _ (λ source _.
    then_gives _ (steps_of_table at ms) _ (λ few is.
    rw (count_by_key ms) (given (λ _. count_found (get_member (codes "steps") ms) ≤ most_steps) (steps_of_table at ms) few (few_found at (get_member (codes "steps") ms)) is)))))

module _ (fs : List FrameSpec) where
  -- a plan of at most so many steps, which can be said
  record Says (m : ℕ) (p : Plan) : Type 0 where
    said : can_be_said fs p ≡ true
    few : (sayable fs p).steps ≤ m

  -- one more step, which can be said
  more : (m : ℕ) (p after : Plan) (own : Bool) → sayable fs after ≡ and_said (sayable fs p) own → own ≡ true → Says m p → Says (m + 1) after
  more m p after own sum is s = record {
    said = both _ _ _ (ap (λ (x : Sayable). x.said) sum) s.said is;
    few = (let one : (sayable fs after).steps ≡ (sayable fs p).steps + 1 = ap (λ (x : Sayable). x.steps) sum in let n = s.few in omega arith);
  }

  sum-Filter : (p : Plan) (e : Expr) → sayable fs (plan.Filter p e) ≡ and_said (sayable fs p) (is_said e)
  sum-Filter p e = search (rules, plans.the_lemmas)

  sum-Select : (p : Plan) (outputs : List (List ℕ × Expr)) → sayable fs (plan.Select p outputs) ≡ and_said (sayable fs p) (are_said outputs)
  sum-Select p outputs = search (rules, plans.the_lemmas)

  sum-WithColumns : (p : Plan) (outputs : List (List ℕ × Expr)) → sayable fs (plan.WithColumns p outputs) ≡ and_said (sayable fs p) (are_said outputs)
  sum-WithColumns p outputs = search (rules, plans.the_lemmas)

  sum-GroupBy : (p : Plan) (keys : List (List ℕ)) (aggs : List (List ℕ × Agg)) → sayable fs (plan.GroupBy p keys aggs) ≡ and_said (sayable fs p) true
  sum-GroupBy p keys aggs = search (rules, plans.the_lemmas)

  sum-Rolling : (p : Plan) (output : List ℕ) (kind : RollKind) (column : List ℕ) (w m : ℤ) → sayable fs (plan.Rolling p output kind column w m) ≡ and_said (sayable fs p) true
  sum-Rolling p output kind column w m = search (rules, plans.the_lemmas)

  sum-CumSum : (p : Plan) (output column : List ℕ) → sayable fs (plan.CumSum p output column) ≡ and_said (sayable fs p) true
  sum-CumSum p output column = search (rules, plans.the_lemmas)

  sum-Rank : (p : Plan) (output : List ℕ) (kind : RankKind) (column : List ℕ) → sayable fs (plan.Rank p output kind column) ≡ and_said (sayable fs p) true
  sum-Rank p output kind column = search (rules, plans.the_lemmas)

  sum-Join :
      (p right : Plan) (how : How) (keys : List (List ℕ)) (equal : Bool)
      → sayable fs (plan.Join p right how keys equal) ≡ and_said (sayable fs p) ((sayable fs right).said && nat_le (sayable fs right).steps most_steps)
  sum-Join p right how keys equal = search (rules, plans.the_lemmas)

  sum-Scan : (i : ℕ) → sayable fs (plan.Scan i) ≡ record { steps = 0; said = is_named fs i }
  sum-Scan i = search (rules, plans.the_lemmas)

  few_are : (n : ℕ) → n ≤ most_steps → nat_le n most_steps ≡ true
  few_are n h = grind (arith, nat_tests)

  joined : (m : ℕ) (p right : Plan) (how : How) (keys : List (List ℕ)) (equal : Bool) → Says m p → Says most_steps right → Says (m + 1) (plan.Join p right how keys equal)
  joined m p right how keys equal s r = more m p _ _ (sum-Join p right how keys equal) (both _ _ _ refl r.said (few_are _ r.few)) s

  found_name : (xs : List FrameSpec) (name : List ℕ) (i : ℕ) → position (λ f. bytes_eq f.name name) xs ≡ Some i → frame_name xs i ≡ name
  found_name [] name i is = absurd (cc)
  found_name (f ∷ xs) name i is =
      let at = position-Some (λ f. bytes_eq f.name name) (f ∷ xs) i f is in
      let got = slice_get-get_or (f ∷ xs) i f at.0 in
      rw got ((bytes_eq-Decides _ name).0 at.1)

  same_index : (i j : ℕ) → i ≡ j → is_index (Some i) j ≡ true
  same_index i j e = grind (arith, nat_tests, e)

  found_named : (at : Location) (name : List ℕ) (o : Option ℕ) (i : ℕ) → index_of_name (λ (f : FrameSpec). f.name) name fs ≡ o → found_frame at o ≡ Ok i → is_named fs i ≡ true
  found_named at name None i is e = absurd (cc)
  found_named at name (Some j) i is e =
      let same : j ≡ i = cc in
      let own : index_of_name (λ (f : FrameSpec). f.name) name fs ≡ Some i = is ∙ ap Some same in
      rw (found_name fs name i own, own) (same_index i i refl)

  -- a frame that is named can be said
  named_said : (at : Location) (name : List ℕ) (i : ℕ) → frame_named at name fs ≡ Ok i → Says 0 (plan.Scan i)
  unfolding frame_named
  named_said at name i is = record {
    said = ap (λ (x : Sayable). x.said) (sum-Scan i) ∙ found_named at name _ i refl is;
    few = (let none : (sayable fs (plan.Scan i)).steps ≡ 0 = ap (λ (x : Sayable). x.steps) (sum-Scan i) in omega arith);
  }

  within : (n m : ℕ) (p : Plan) → n ≤ m → Says n p → Says m p
  within n m p h s = record {
    said = s.said;
    few = (let f = s.few in omega (arith, h));
  }

  within_few : (r : Result Plan ViewsFault) (n : ℕ) → n ≤ most_steps → IfOk r (Says n) → IfOk r (Says most_steps)
  within_few (Ok p) n h s = within n most_steps p h s
  within_few (Err f) n h s = tt

  either :
      (o : Ordering) (r s : Result Plan ViewsFault) (n m : ℕ) → IfOk r (Says n) → IfOk s (Says m)
      → IfOk (match_ordering o r s r) (Says (match_ordering o n m n))
  either Less r s n m g h = g
  either Equal r s n m g h = h
  either Greater r s n m g h = g

  mutual
    unfolding list_of

    steps_said : (at : Location) (n m : ℕ) (input : Plan) (ds : Items) → Says m input → IfOk (steps_after at n fs input ds) (Says (m + length (list_of ds)))
    steps_said at n m input no_items h = let none : length (list_of no_items) ≡ 0 = refl in subst (λ k. Says k input) (omega (arith, none)) h
    steps_said at n m input (item d ds) h =
        let one : length (list_of (item d ds)) ≡ suc (length (list_of ds)) = refl in
        then_gives _ (step_of (step_at at n) fs input d) _
        (λ next is.
        subst (λ k. IfOk (steps_after at (n + 1) fs next ds) (Says k)) (omega (arith, one))
        (steps_said at (n + 1) (m + 1) next ds (given (Says (m + 1)) (step_of (step_at at n) fs input d) next (step_said (step_at at n) m input d h) is)))

    step_said : (at : Location) (m : ℕ) (input : Plan) (d : Data) → Says m input → IfOk (step_of at fs input d) (Says (m + 1))
    step_said at m input (array (item w ds)) h =
        then_gives _ (text_in at w) _ (λ name _. then_gives _ (step_of_word at name) _ (λ word _. applied_said at word m input ds h))
    step_said at m input (array no_items) h = tt
    step_said at m input (string s) h = tt
    step_said at m input (integer n) h = tt
    step_said at m input (float x) h = tt
    step_said at m input (boolean b) h = tt
    step_said at m input (datetime t) h = tt
    step_said at m input (table ms) h = tt

    applied_said : (at : Location) (word : StepWord) (m : ℕ) (input : Plan) (ds : Items) → Says m input → IfOk (applied_step at fs word input ds) (Says (m + 1))
    applied_said at step_word.Filter m input ds h =
        then_gives _ (only_in at (list_of ds)) _ (λ d _. then_gives _ (expr_of (item_at at 1) d) _
        (λ e is. more m input _ _ (sum-Filter input e) (given IsSaid (expr_of (item_at at 1) d) e (expr_said (item_at at 1) d) is) h))
    applied_said at step_word.Select m input ds h =
        then_gives _ (items_in at (list_of ds)) _
        (λ outputs is. more m input _ _ (sum-Select input outputs) (given (λ o. are_said o ≡ true) (items_in at (list_of ds)) outputs (items_said at (list_of ds)) is) h)
    applied_said at step_word.WithColumns m input ds h =
        then_gives _ (items_in at (list_of ds)) _
        (λ outputs is. more m input _ _ (sum-WithColumns input outputs) (given (λ o. are_said o ≡ true) (items_in at (list_of ds)) outputs (items_said at (list_of ds)) is) h)
    applied_said at step_word.GroupBy m input ds h =
        then_gives _ (first_in at (list_of ds)) _ (λ k _. then_gives _ (keys_in (item_at at 1) k.0) _ (λ keys _.
        then_gives _ (aggregates_in at k.1) _ (λ aggregates _. more m input _ _ (sum-GroupBy input keys aggregates) refl h)))
    applied_said at (step_word.Rolling kind) m input ds h =
        then_gives _ (window_parts at (list_of ds)) _ (λ w _. more m input _ _ (sum-Rolling input w.0.0 kind w.0.1 w.1.0 w.1.1) refl h)
    applied_said at step_word.CumSum m input ds h =
        then_gives _ (pair_in at (list_of ds)) _ (λ p _. then_gives _ (names_in at p.0 p.1) _ (λ n _. more m input _ _ (sum-CumSum input n.0 n.1) refl h))
    applied_said at step_word.Rank m input ds h =
        then_gives _ (rank_parts at (list_of ds)) _ (λ r _. more m input _ _ (sum-Rank input r.0 r.1 r.2) refl h)
    applied_said at step_word.Join m input (item kind (item keys (item right no_items))) h =
        then_gives _ (kind_and_keys at kind keys) _ (λ how _. then_gives _ (side_of (item_at at 3) fs right) _ (λ p is.
        joined m input p how.0 how.1 false h (given (Says most_steps) (side_of (item_at at 3) fs right) p (side_said (item_at at 3) right) is)))
    applied_said at step_word.Join m input no_items h = tt
    applied_said at step_word.Join m input (item a no_items) h = tt
    applied_said at step_word.Join m input (item a (item b no_items)) h = tt
    applied_said at step_word.Join m input (item kind (item keys (item right (item word no_items)))) h =
        then_gives _ (kind_and_keys at kind keys) _ (λ how _. then_gives _ (side_of (item_at at 3) fs right) _ (λ p is.
        then_gives _ (nulls_equal_of at (word ∷ [])) _ (λ equal _.
        joined m input p how.0 how.1 equal h (given (Says most_steps) (side_of (item_at at 3) fs right) p (side_said (item_at at 3) right) is))))
    applied_said at step_word.Join m input (item a (item b (item c (item d (item e ds))))) h = tt

    side_said : (at : Location) (d : Data) → IfOk (side_of at fs d) (Says most_steps)
    side_said at (string name) =
        then_gives _ (frame_named at name fs) _ (λ i is. within 0 most_steps (plan.Scan i) (omega arith) (named_said at name i is))
    side_said at (table ms) =
        then_gives _ (only_source_at at ms) _ (λ source of. then_gives _ (frame_named at source fs) _ (λ i is.
        within_few (steps_at at fs (plan.Scan i) ms) (count_of ms) (given (λ _. count_of ms ≤ most_steps) (only_source_at at ms) source (few_steps at ms) of)
        (table_said at (plan.Scan i) ms (named_said at source i is))))
    side_said at (array ds) = tt
    side_said at (integer n) = tt
    side_said at (float x) = tt
    side_said at (boolean b) = tt
    side_said at (datetime t) = tt

    table_said : (at : Location) (input : Plan) (ms : Members) → Says 0 input → IfOk (steps_at at fs input ms) (Says (count_of ms))
    table_said at input no_members h = h
    table_said at input (member k d ms) h =
        either (slice_cmp nat_cmp (codes "steps") k) _ _ (count_of ms) (count_in d) (table_said at input ms h) (array_said at input d h)

    array_said : (at : Location) (input : Plan) (d : Data) → Says 0 input → IfOk (all_steps at fs input d) (Says (count_in d))
    array_said at input (array ds) h =
        let e : 0 + length (list_of ds) ≡ length (list_of ds) = omega arith in
        subst (λ k. IfOk (steps_after at 0 fs input ds) (Says k)) e (steps_said at 0 0 input ds h)
    array_said at input (string s) h = tt
    array_said at input (integer n) h = tt
    array_said at input (float x) h = tt
    array_said at input (boolean b) h = tt
    array_said at input (datetime t) h = tt
    array_said at input (table ms) h = tt

  view_said : (before : List ViewSpec) (d : Data) → IfOk (view_of fs before d) (λ (v : ViewSpec). can_be_said fs v.plan ≡ true)
  view_said before d =
      let at = location.View (length before) in
      then_gives _ (table_value at d) _ (λ ms _. then_gives _ (entries_of_view at ms) _ (λ entries _.
      then_gives _ (new_view_name at entries.name before) _ (λ name _.
      then_gives _ (frame_named at entries.source fs) _ (λ i is.
      then_gives _ (steps_at at fs (plan.Scan i) ms) _ (λ p are.
      (given (Says (count_of ms)) (steps_at at fs (plan.Scan i) ms) p (table_said at (plan.Scan i) ms (named_said at entries.source i is)) are).said)))))

-- a document can say the plan of each view that is read
pub views_said : (fs : List FrameSpec) → AreSaid fs
unfolding AreSaid
views_said fs before d v is = given (λ (w : ViewSpec). can_be_said fs w.plan ≡ true) (view_of fs before d) v (view_said fs before d) is
