-- What every document that is read promises.
use Rattle.std.proofs.Common.{◌≡◌, ◌≤◌, ℕ, Bool, true, false, cond, ◌&&◌, List, [], length, nat_lt, position, Option, Some, None, Result, Ok, Err, IfOk, Ordering, Less, Equal, Greater, nat_cmp, codes, ◌∷◌, ◌+◌, refl, arith, rules, ◌∙◌}
use Rattle.std.specs.Prelude.{ℤ}
use Rattle.std.specs.List.{All}
use Rattle.std.proofs.lemmas.Bool.Decides.{nat_tests}
use Rattle.std.proofs.lemmas.List.Elements.{All-nil}
use Rattle.std.proofs.lemmas.List.Quantifiers.{position-Some}
use Rattle.std.proofs.lemmas.List.Sums.{list_all-from_AllPass}
use Rattle.std.specs.Cmp.Lexicographic.{slice_cmp}
use Rattle.std.specs.Ordering.{match_ordering}
use Rattle.std.specs.Str.{bytes_eq}
use Rattle.toml.specs.Data.{Data, string, integer, float, boolean, datetime, array, table, Items, no_items, item, Members, no_members, member}
use Rattle.df_value.specs.Schemas.{is_base, is_base_dtype}
use Rattle.df_value.specs.declared.cell.CellType.{CellType}
use Rattle.df_value.specs.declared.cell.CellType.TheVariants as dtype
use Rattle.df_value.specs.declared.schema.SchemaFault.{SchemaFault}
use Rattle.df_value.specs.SchemaFaults.{schema_fault}
use Rattle.df_ops.specs.declared.joins.How.{How}
use Rattle.df_plan.specs.declared.plan.Plan.{Plan, Scan, Filter, Select, WithColumns, GroupBy, Join, Rolling, CumSum, Rank, the_lemmas}
use Rattle.df_ops.specs.declared.ranks.RankKind.{RankKind}
use Rattle.df_ops.specs.declared.windows.RollKind.{RollKind}
use Rattle.df_expr.specs.declared.expr.Expr.{Expr}
use Rattle.df_ops.specs.declared.agg.Agg.{Agg}
use Rattle.df_text.specs.declared.document.FrameSpec.{FrameSpec}
use Rattle.df_text.specs.declared.document.ViewSpec.{ViewSpec}
use Rattle.df_text.specs.declared.document.Location.{Location}
use Rattle.df_text.specs.declared.document.Location.TheVariants as location
use Rattle.df_text.specs.declared.view_steps.StepWord.{StepWord}
use Rattle.df_text.specs.declared.view_steps.StepWord.TheVariants as step_word
use Rattle.df_text.specs.declared.fault.ViewsFault.{ViewsFault}
use Rattle.df_text.specs.declared.fault.ViewsFault.TheVariants as fault
use Rattle.df_text.specs.Reading.{read_each}
use Rattle.df_text.proofs.NewNames.{distinct_give, frame_new, view_new}
use Rattle.df_value.specs.Names.{AreDistinct}
use Rattle.df_text.specs.Tree.{has_only_keys, text_in, array_in, table_value, first_in, only_in, pair_in, list_of, tree_of}
use Rattle.df_text.specs.Frames.{schema_column_of, dtype_of_word, entries_of_frame, unless_fault, schema_of, new_name, frame_of, frames_of}
use Rattle.df_text.specs.Expressions.{expr_of}
use Rattle.df_text.specs.RowWiseSteps.{items_in}
use Rattle.df_text.specs.AggregateItems.{aggregates_in}
use Rattle.df_text.specs.Locations.{item_at, step_at}
use Rattle.df_text.specs.WindowSteps.{names_in, rank_parts, rolling_of, window_parts}
use Rattle.df_text.specs.Sources.{found_frame, frame_named, only_source_at}
use Rattle.df_text.specs.Steps.{step_of_word, keys_in, kind_and_keys, nulls_equal_of, steps_after, step_of, applied_step, side_of, steps_at, all_steps}
use Rattle.df_text.specs.Scans.{scans_below}
use Rattle.df_text.specs.Document.{IsDocument, at_most, document_of, entries_of_view, new_view_name, tables_at, top_tables_of, view_of, view_specs_of}
use Rattle.df_text.proofs.ReadFacts.{then_gives, if_gives, given, all_give, each_give, length_gives}

-- the three words name base types
word_of : (a b c : Bool) (at : Location) (t : CellType) → cond a (Ok dtype.Int) (cond b (Ok dtype.Text) (cond c (Ok dtype.Bool) (Err (fault.Word at)))) ≡ Ok t → is_base_dtype t ≡ true
word_of true b c at t e = let same : dtype.Int ≡ t = cc in rw (← same) refl
word_of false true c at t e = let same : dtype.Text ≡ t = cc in rw (← same) refl
word_of false false true at t e = let same : dtype.Bool ≡ t = cc in rw (← same) refl
word_of false false false at t e = absurd (cc)

column_base : (at : Location) (d : Data) → IfOk (schema_column_of at d) (λ (c : List ℕ × CellType). is_base_dtype c.1 ≡ true)
column_base at d =
    then_gives _ (array_in at d) _ (λ ds _. then_gives _ (pair_in at ds) _ (λ p _.
    then_gives _ (text_in at p.0) _ (λ name _. then_gives _ (text_in at p.1) _ (λ word _.
    then_gives _ (dtype_of_word at word) _ (λ t is. word_of _ _ _ at t is)))))

kept_columns : (index : ℕ) (columns schema : List (List ℕ × CellType)) (o : Option SchemaFault) → unless_fault index columns o ≡ Ok schema → columns ≡ schema
kept_columns index columns schema (Some f) e = absurd (cc)
kept_columns index columns schema None e = cc

frame_base : (before : List FrameSpec) (d : Data) → IfOk (frame_of before d) (λ (f : FrameSpec). is_base f.schema ≡ true)
frame_base before d =
    let at = location.Frame (length before) in
    then_gives _ (table_value at d) _ (λ ms _. then_gives _ (entries_of_frame at ms) _ (λ entries _.
    then_gives _ (read_each (schema_column_of at) entries.columns) _ (λ columns are.
    then_gives _ (schema_of (length before) columns) _ (λ schema same.
    then_gives _ (new_name at entries.name before) _ (λ name _.
    let passes : List ℕ × CellType → Bool = λ c. is_base_dtype c.1 in
    let each = each_give (λ (c : List ℕ × CellType). passes c ≡ true) (schema_column_of at) (column_base at) entries.columns in
    let all = given (λ cs. All (λ (c : List ℕ × CellType). passes c ≡ true) cs) (read_each (schema_column_of at) entries.columns) columns each are in
    rw (← kept_columns (length before) columns schema (schema_fault columns) same) (list_all-from_AllPass passes columns all))))))

scans-Filter : (n : ℕ) (p : Plan) (e : Expr) → scans_below n (Filter p e) ≡ scans_below n p
scans-Filter n p e = search (rules, the_lemmas)

scans-Select : (n : ℕ) (p : Plan) (items : List (List ℕ × Expr)) → scans_below n (Select p items) ≡ scans_below n p
scans-Select n p items = search (rules, the_lemmas)

scans-WithColumns : (n : ℕ) (p : Plan) (items : List (List ℕ × Expr)) → scans_below n (WithColumns p items) ≡ scans_below n p
scans-WithColumns n p items = search (rules, the_lemmas)

scans-GroupBy : (n : ℕ) (p : Plan) (keys : List (List ℕ)) (aggs : List (List ℕ × Agg)) → scans_below n (GroupBy p keys aggs) ≡ scans_below n p
scans-GroupBy n p keys aggs = search (rules, the_lemmas)

both_true : (a b c : Bool) → a ≡ (b && c) → b ≡ true → c ≡ true → a ≡ true
both_true a b c e g h = rw (e, g, h) refl

scans-Rolling : (n : ℕ) (p : Plan) (output : List ℕ) (kind : RollKind) (column : List ℕ) (w m : ℤ) → scans_below n (Rolling p output kind column w m) ≡ scans_below n p
scans-Rolling n p output kind column w m = search (rules, the_lemmas)

scans-CumSum : (n : ℕ) (p : Plan) (output column : List ℕ) → scans_below n (CumSum p output column) ≡ scans_below n p
scans-CumSum n p output column = search (rules, the_lemmas)

scans-Rank : (n : ℕ) (p : Plan) (output : List ℕ) (kind : RankKind) (column : List ℕ) → scans_below n (Rank p output kind column) ≡ scans_below n p
scans-Rank n p output kind column = search (rules, the_lemmas)

scans-both : (n : ℕ) (left right : Plan) (how : How) (keys : List (List ℕ)) (equal : Bool) → scans_below n (Join left right how keys equal) ≡ (scans_below n left && scans_below n right)
scans-both n left right how keys equal = search (rules, the_lemmas)

scans-Join :
    (n : ℕ) (left right : Plan) (how : How) (keys : List (List ℕ)) (equal : Bool) → scans_below n left ≡ true → scans_below n right ≡ true →
    scans_below n (Join left right how keys equal) ≡ true
scans-Join n left right how keys equal g h = both_true _ _ _ (scans-both n left right how keys equal) g h

scans-Scan : (n i : ℕ) → scans_below n (Scan i) ≡ nat_lt i n
scans-Scan n i = search (rules, the_lemmas)

found_within : (at : Location) (p : FrameSpec → Bool) (frames : List FrameSpec) (o : Option ℕ) (i : ℕ) → position p frames ≡ o → found_frame at o ≡ Ok i → nat_lt i (length frames) ≡ true
found_within at p [] None i is e = absurd (cc)
found_within at p (f ∷ frames) None i is e = absurd (cc)
found_within at p [] (Some j) i is e = absurd (cc)
found_within at p (f ∷ frames) (Some j) i is e =
    let same : j ≡ i = cc in
    let within = position-Some p (f ∷ frames) j f is in
    rw (← same) (grind (arith, nat_tests))

-- a frame that is named is there
named_scans : (at : Location) (frames : List FrameSpec) (name : List ℕ) (i : ℕ) → frame_named at name frames ≡ Ok i → scans_below (length frames) (Scan i) ≡ true
unfolding frame_named
named_scans at frames name i is = scans-Scan (length frames) i ∙ found_within at (λ (f : FrameSpec). bytes_eq f.name name) frames _ i refl is

-- a plan that reads no other frames
abbrev pub Reads : List FrameSpec → Plan → Type 0
Reads frames p = scans_below (length frames) p ≡ true

either_scans : (frames : List FrameSpec) (o : Ordering) (r s : Result Plan ViewsFault) → IfOk r (Reads frames) → IfOk s (Reads frames) → IfOk (match_ordering o r s r) (Reads frames)
either_scans frames Less r s g h = g
either_scans frames Equal r s g h = h
either_scans frames Greater r s g h = g

rolling_scans : (at : Location) (frames : List FrameSpec) (kind : RollKind) (input : Plan) (ds : List Data) → Reads frames input → IfOk (rolling_of at kind input ds) (Reads frames)
rolling_scans at frames kind input ds h =
    then_gives _ (window_parts at ds) _ (λ w _. scans-Rolling (length frames) input w.0.0 kind w.0.1 w.1.0 w.1.1 ∙ h)

mutual
  steps_scans : (at : Location) (n : ℕ) (frames : List FrameSpec) (input : Plan) (ds : Items) → Reads frames input → IfOk (steps_after at n frames input ds) (Reads frames)
  steps_scans at n frames input no_items h = h
  steps_scans at n frames input (item d ds) h =
      then_gives _ (step_of (step_at at n) frames input d) _
      (λ next is. steps_scans at (n + 1) frames next ds (given (Reads frames) (step_of (step_at at n) frames input d) next (step_scans (step_at at n) frames input d h) is))

  step_scans : (at : Location) (frames : List FrameSpec) (input : Plan) (d : Data) → Reads frames input → IfOk (step_of at frames input d) (Reads frames)
  step_scans at frames input (array (item w ds)) h =
      then_gives _ (text_in at w) _ (λ name _. then_gives _ (step_of_word at name) _ (λ word _. applied_scans at frames word input ds h))
  step_scans at frames input (array no_items) h = tt
  step_scans at frames input (string s) h = tt
  step_scans at frames input (integer n) h = tt
  step_scans at frames input (float x) h = tt
  step_scans at frames input (boolean b) h = tt
  step_scans at frames input (datetime t) h = tt
  step_scans at frames input (table ms) h = tt

  applied_scans : (at : Location) (frames : List FrameSpec) (word : StepWord) (input : Plan) (ds : Items) → Reads frames input → IfOk (applied_step at frames word input ds) (Reads frames)
  applied_scans at frames step_word.Filter input ds h =
      then_gives _ (only_in at (list_of ds)) _ (λ d _. then_gives _ (expr_of (item_at at 1) d) _ (λ e _. scans-Filter (length frames) input e ∙ h))
  applied_scans at frames step_word.Select input ds h =
      then_gives _ (items_in at (list_of ds)) _ (λ items _. scans-Select (length frames) input items ∙ h)
  applied_scans at frames step_word.WithColumns input ds h =
      then_gives _ (items_in at (list_of ds)) _ (λ items _. scans-WithColumns (length frames) input items ∙ h)
  applied_scans at frames step_word.GroupBy input ds h =
      then_gives _ (first_in at (list_of ds)) _ (λ k _. then_gives _ (keys_in (item_at at 1) k.0) _ (λ keys _.
      then_gives _ (aggregates_in at k.1) _ (λ aggregates _.
      scans-GroupBy (length frames) input keys aggregates ∙ h)))
  applied_scans at frames (step_word.Rolling kind) input ds h = rolling_scans at frames kind input (list_of ds) h
  applied_scans at frames step_word.CumSum input ds h =
      then_gives _ (pair_in at (list_of ds)) _ (λ p _. then_gives _ (names_in at p.0 p.1) _ (λ n _. scans-CumSum (length frames) input n.0 n.1 ∙ h))
  applied_scans at frames step_word.Rank input ds h =
      then_gives _ (rank_parts at (list_of ds)) _ (λ r _. scans-Rank (length frames) input r.0 r.1 r.2 ∙ h)
  applied_scans at frames step_word.Join input (item kind (item keys (item right no_items))) h =
      then_gives _ (kind_and_keys at kind keys) _ (λ how _. then_gives _ (side_of (item_at at 3) frames right) _ (λ p is.
      scans-Join (length frames) input p how.0 how.1 false h (given (Reads frames) (side_of (item_at at 3) frames right) p (side_scans (item_at at 3) frames right) is)))
  applied_scans at frames step_word.Join input no_items h = tt
  applied_scans at frames step_word.Join input (item a no_items) h = tt
  applied_scans at frames step_word.Join input (item a (item b no_items)) h = tt
  applied_scans at frames step_word.Join input (item kind (item keys (item right (item word no_items)))) h =
      then_gives _ (kind_and_keys at kind keys) _ (λ how _. then_gives _ (side_of (item_at at 3) frames right) _ (λ p is.
      then_gives _ (nulls_equal_of at (word ∷ [])) _ (λ equal _.
      scans-Join (length frames) input p how.0 how.1 equal h (given (Reads frames) (side_of (item_at at 3) frames right) p (side_scans (item_at at 3) frames right) is))))
  applied_scans at frames step_word.Join input (item a (item b (item c (item d (item e ds))))) h = tt

  side_scans : (at : Location) (frames : List FrameSpec) (d : Data) → IfOk (side_of at frames d) (Reads frames)
  side_scans at frames (string name) = then_gives _ (frame_named at name frames) _ (λ i is. named_scans at frames name i is)
  side_scans at frames (table ms) =
      then_gives _ (only_source_at at ms) _ (λ source _. then_gives _ (frame_named at source frames) _ (λ i is.
      steps_at_scans at frames (Scan i) ms (named_scans at frames source i is)))
  side_scans at frames (array ds) = tt
  side_scans at frames (integer n) = tt
  side_scans at frames (float x) = tt
  side_scans at frames (boolean b) = tt
  side_scans at frames (datetime t) = tt

  steps_at_scans : (at : Location) (frames : List FrameSpec) (input : Plan) (ms : Members) → Reads frames input → IfOk (steps_at at frames input ms) (Reads frames)
  steps_at_scans at frames input no_members h = h
  steps_at_scans at frames input (member k d ms) h =
      either_scans frames (slice_cmp nat_cmp (codes "steps") k) _ _ (steps_at_scans at frames input ms h) (all_steps_scans at frames input d h)

  all_steps_scans : (at : Location) (frames : List FrameSpec) (input : Plan) (d : Data) → Reads frames input → IfOk (all_steps at frames input d) (Reads frames)
  all_steps_scans at frames input (array ds) h = steps_scans at 0 frames input ds h
  all_steps_scans at frames input (string s) h = tt
  all_steps_scans at frames input (integer n) h = tt
  all_steps_scans at frames input (float x) h = tt
  all_steps_scans at frames input (boolean b) h = tt
  all_steps_scans at frames input (datetime t) h = tt
  all_steps_scans at frames input (table ms) h = tt

view_scans : (frames : List FrameSpec) (before : List ViewSpec) (d : Data) → IfOk (view_of frames before d) (λ (v : ViewSpec). Reads frames v.plan)
view_scans frames before d =
    let at = location.View (length before) in
    then_gives _ (table_value at d) _ (λ ms _. then_gives _ (entries_of_view at ms) _ (λ entries _.
    then_gives _ (new_view_name at entries.name before) _ (λ name _.
    then_gives _ (frame_named at entries.source frames) _ (λ i is.
    then_gives _ (steps_at at frames (Scan i) ms) _ (λ p are.
    given (Reads frames) (steps_at at frames (Scan i) ms) p (steps_at_scans at frames (Scan i) ms (named_scans at frames entries.source i is)) are)))))

few_by_test : (b : Bool) (n : ℕ) (many : ViewsFault) (ds : List Data) → nat_lt n (length ds) ≡ b → IfOk (cond b (Err many) (Ok ds)) (λ few. length few ≤ n)
few_by_test true n many ds e = tt
few_by_test false n many ds e = grind (arith, nat_tests)

few : (n : ℕ) (many : ViewsFault) (ds : List Data) → IfOk (at_most n many ds) (λ some. length some ≤ n)
few n many ds = few_by_test (nat_lt n (length ds)) n many ds refl

few_tables : (ms : Members) → IfOk (top_tables_of ms) (λ t. (length t.frames ≤ 8) × (length t.views ≤ 32))
few_tables ms =
    if_gives _ (has_only_keys (codes "frame" ∷ codes "view" ∷ []) ms) _ (fault.Shape location.Top)
    (then_gives _ (tables_at (codes "frame") ms) _ (λ frames _. then_gives _ (tables_at (codes "view") ms) _ (λ views _.
    then_gives _ (at_most 8 fault.TooManyFrames frames) _ (λ some is. then_gives _ (at_most 32 fault.TooManyViews views) _ (λ others are. (
      given (λ ds. length ds ≤ 8) (at_most 8 fault.TooManyFrames frames) some (few 8 fault.TooManyFrames frames) is,
      given (λ ds. length ds ≤ 32) (at_most 32 fault.TooManyViews views) others (few 32 fault.TooManyViews views) are,
    ))))))

pub document_sound : (bytes : List ℕ) → IfOk (document_of bytes) (λ v. IsDocument v)
document_sound bytes =
    then_gives _ (tree_of bytes) _ (λ ms _. then_gives _ (top_tables_of ms) _ (λ tables ts.
    then_gives _ (frames_of tables.frames) _ (λ frames fs. then_gives _ (view_specs_of frames tables.views) _ (λ views vs.
    let most = given (λ t. (length t.frames ≤ 8) × (length t.views ≤ 32)) (top_tables_of ms) tables (few_tables ms) ts in
    let n : length frames ≡ 0 + length tables.frames = given (λ (xs : List FrameSpec). length xs ≡ 0 + length tables.frames) (frames_of tables.frames) frames (length_gives frame_of [] tables.frames) fs in
    let m : length views ≡ 0 + length tables.views = given (λ (xs : List ViewSpec). length xs ≡ 0 + length tables.views) (view_specs_of frames tables.views) views (length_gives (view_of frames) [] tables.views) vs in
    record {
      few_frames = omega (arith, most.0);
      few_views = omega (arith, most.1);
      frame_names = given (λ xs. AreDistinct (λ (f : FrameSpec). f.name) [] xs) (frames_of tables.frames) frames
          (distinct_give (λ (f : FrameSpec). f.name) frame_of frame_new [] tables.frames refl) fs;
      view_names = given (λ xs. AreDistinct (λ (w : ViewSpec). w.name) [] xs) (view_specs_of frames tables.views) views
          (distinct_give (λ (w : ViewSpec). w.name) (view_of frames) (view_new frames) [] tables.views refl) vs;
      base = given (λ xs. All (λ (f : FrameSpec). is_base f.schema ≡ true) xs) (frames_of tables.frames) frames
          (all_give (λ (f : FrameSpec). is_base f.schema ≡ true) frame_of frame_base [] tables.frames (All-nil _)) fs;
      scans = given (λ xs. All (λ (w : ViewSpec). scans_below (length frames) w.plan ≡ true) xs) (view_specs_of frames tables.views) views
          (all_give (λ (w : ViewSpec). scans_below (length frames) w.plan ≡ true) (view_of frames) (view_scans frames) [] tables.views (All-nil _)) vs;
    }))))
