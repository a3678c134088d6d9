-- The steps of a plan beside those of the document of which it is read.
use Rattle.std.proofs.Common.{◌≡◌, ◌<◌, ◌≤◌, ◌∙◌, ◌+◌, ◌-◌, ◌^◌, ℕ, zero, suc, Bool, true, false, cond, List, [], ◌∷◌, length, nat_lt, Option, Some, None, IfOk, Ordering, Less, Equal, Greater, nat_cmp, codes, refl, subst, sym, ap, inl, inr, arith, rules}
use Rattle.std.specs.Prelude.{◌⊎◌, ⊤, ℤ, slice_get}
use Rattle.std.specs.declared.result.Result.{Result}
use Rattle.std.specs.declared.result.Result.TheVariants.{Ok, Err}
use Rattle.std.proofs.lemmas.Bool.Decides.{nat_tests}
use Rattle.std.proofs.lemmas.Slice.Eq.{bytes_eq-Decides}
use Rattle.std.specs.Cmp.Lexicographic.{slice_cmp}
use Rattle.std.specs.Ordering.{match_ordering}
use Rattle.std.specs.Str.{bytes_eq}
use Rattle.toml.specs.Data.{Data, string, integer, float, boolean, datetime, array, table, Items, no_items, item, Members, no_members, member, as_str, as_table, get_member}
use Rattle.df_expr.specs.declared.expr.Expr.{Expr}
use Rattle.df_ops.specs.declared.agg.Agg.{Agg}
use Rattle.df_ops.specs.declared.joins.How.{How}
use Rattle.df_ops.specs.declared.ranks.RankKind.{RankKind}
use Rattle.df_ops.specs.declared.windows.RollKind.{RollKind}
use Rattle.df_ops.specs.declared.windows.RollKind.TheVariants as roll
use Rattle.df_plan.specs.declared.plan.Plan.{Plan, Scan, Filter, Select, WithColumns, GroupBy, Join, Rolling, CumSum, Rank, the_lemmas}
use Rattle.df_text.specs.AggregateItems.{aggregates_in}
use Rattle.df_text.specs.Expressions.{expr_of}
use Rattle.df_text.specs.Locations.{item_at, step_at}
use Rattle.df_text.specs.RowWiseSteps.{items_in as outputs_in}
use Rattle.df_text.specs.Sources.{array_or_none, frame_named, only_source_at, source_at, steps_of_table, steps_within}
use Rattle.df_text.specs.Steps.{all_steps, applied_step, keys_in, kind_and_keys, nulls_equal_of, side_of, step_of, step_of_word, steps_after, steps_at}
use Rattle.df_text.specs.Tree.{array_in, first_in, has_only_keys, list_of, only_in, pair_in, text_in, value_at}
use Rattle.df_text.specs.WindowSteps.{names_in, rank_parts, window_parts}
use Rattle.df_text.specs.declared.document.FrameSpec.{FrameSpec}
use Rattle.df_text.specs.declared.document.Location.{Location}
use Rattle.df_text.specs.declared.fault.ViewsFault.{ViewsFault}
use Rattle.df_text.specs.declared.fault.ViewsFault.TheVariants as fault
use Rattle.df_text.specs.declared.view_steps.StepWord.{StepWord}
use Rattle.df_text.specs.declared.view_steps.StepWord.TheVariants as step_word
use Rattle.df_text.proofs.ReadFacts.{given, if_gives, then_gives}
use Rattle.df_explain.specs.PlanPlaces.{input_of, one_more, right_of, steps_of, without_last, word_of, IsUpTo}
use Rattle.df_explain.specs.ReadSteps.{side_steps, side_in, AreStepsWithin}
use Rattle.df_explain.specs.Trees.{array_at, head_of, items_in, items_or_none, steps_or_none, word_in}
use Rattle.df_explain.proofs.PlaceFacts.{if_ok_then}

-- a plan with one more step over an input, of this word, and with this right side if it is a join
abbrev IsOver : Plan → List ℕ → Option Plan → Plan → Type 0
IsOver input word right next =
    (input_of next ≡ input) × (steps_of next ≡ one_more (steps_of input)) × (word_of next ≡ word) × (right_of next ≡ right)

over-Filter : (p : Plan) (e : Expr) → IsOver p (codes "filter") None (Filter p e)
over-Filter p e = (search (rules, the_lemmas), search (rules, the_lemmas), search (rules, the_lemmas), search (rules, the_lemmas))

over-Select : (p : Plan) (items : List (List ℕ × Expr)) → IsOver p (codes "select") None (Select p items)
over-Select p items = (search (rules, the_lemmas), search (rules, the_lemmas), search (rules, the_lemmas), search (rules, the_lemmas))

over-WithColumns : (p : Plan) (items : List (List ℕ × Expr)) → IsOver p (codes "with_columns") None (WithColumns p items)
over-WithColumns p items = (search (rules, the_lemmas), search (rules, the_lemmas), search (rules, the_lemmas), search (rules, the_lemmas))

over-GroupBy : (p : Plan) (keys : List (List ℕ)) (aggs : List (List ℕ × Agg)) → IsOver p (codes "group_by") None (GroupBy p keys aggs)
over-GroupBy p keys aggs = (search (rules, the_lemmas), search (rules, the_lemmas), search (rules, the_lemmas), search (rules, the_lemmas))

over-Join :
    (p right : Plan) (how : How) (keys : List (List ℕ)) (equal : Bool) → IsOver p (codes "join") (Some right) (Join p right how keys equal)
over-Join p right how keys equal = (search (rules, the_lemmas), search (rules, the_lemmas), search (rules, the_lemmas), search (rules, the_lemmas))

abbrev rolling_word : RollKind → List ℕ
rolling_word roll.Sum = codes "rolling_sum"
rolling_word roll.Min = codes "rolling_min"
rolling_word roll.Max = codes "rolling_max"

over-Rolling :
    (p : Plan) (output : List ℕ) (kind : RollKind) (column : List ℕ) (w m : ℤ) → IsOver p (rolling_word kind) None (Rolling p output kind column w m)
over-Rolling p output roll.Sum column w m = (search (rules, the_lemmas), search (rules, the_lemmas), search (rules, the_lemmas), search (rules, the_lemmas))
over-Rolling p output roll.Min column w m = (search (rules, the_lemmas), search (rules, the_lemmas), search (rules, the_lemmas), search (rules, the_lemmas))
over-Rolling p output roll.Max column w m = (search (rules, the_lemmas), search (rules, the_lemmas), search (rules, the_lemmas), search (rules, the_lemmas))

over-CumSum : (p : Plan) (output column : List ℕ) → IsOver p (codes "cum_sum") None (CumSum p output column)
over-CumSum p output column = (search (rules, the_lemmas), search (rules, the_lemmas), search (rules, the_lemmas), search (rules, the_lemmas))

over-Rank : (p : Plan) (output : List ℕ) (kind : RankKind) (column : List ℕ) → IsOver p (codes "rank") None (Rank p output kind column)
over-Rank p output kind column = (search (rules, the_lemmas), search (rules, the_lemmas), search (rules, the_lemmas), search (rules, the_lemmas))

scan_steps : (i : ℕ) → steps_of (Scan i) ≡ 0
scan_steps i = search (rules, the_lemmas)

scan_input : (i : ℕ) → input_of (Scan i) ≡ Scan i
scan_input i = search (rules, the_lemmas)

scan_alone : (m i : ℕ) → without_last m (Scan i) ≡ Scan i
scan_alone zero i = refl
scan_alone (suc m) i = ap (without_last m) (scan_input i) ∙ scan_alone m i

-- the word of a step

abbrev word_text : StepWord → List ℕ
word_text step_word.Filter = codes "filter"
word_text step_word.Select = codes "select"
word_text step_word.WithColumns = codes "with_columns"
word_text step_word.GroupBy = codes "group_by"
word_text step_word.Join = codes "join"
word_text (step_word.Rolling kind) = rolling_word kind
word_text step_word.CumSum = codes "cum_sum"
word_text step_word.Rank = codes "rank"

chosen :
    (name word : List ℕ) (a : StepWord) (rest : Result StepWord ViewsFault) → word ≡ word_text a → IfOk rest (λ s. name ≡ word_text s)
    → IfOk (cond (bytes_eq name word) (Ok a) rest) (λ s. name ≡ word_text s)
chosen name word a rest e h = at (bytes_eq name word) (bytes_eq-Decides name word).0
  where
    at : (b : Bool) → (b ≡ true → name ≡ word) → IfOk (cond b (Ok a) rest) (λ s. name ≡ word_text s)
    at true same = same refl ∙ e
    at false same = h

word_is : (at : Location) (name : List ℕ) → IfOk (step_of_word at name) (λ s. name ≡ word_text s)
word_is at name =
    chosen name (codes "filter") step_word.Filter _ refl
    (chosen name (codes "select") step_word.Select _ refl
    (chosen name (codes "with_columns") step_word.WithColumns _ refl
    (chosen name (codes "group_by") step_word.GroupBy _ refl
    (chosen name (codes "join") step_word.Join _ refl
    (chosen name (codes "rolling_sum") (step_word.Rolling roll.Sum) _ refl
    (chosen name (codes "rolling_min") (step_word.Rolling roll.Min) _ refl
    (chosen name (codes "rolling_max") (step_word.Rolling roll.Max) _ refl
    (chosen name (codes "cum_sum") step_word.CumSum _ refl
    (chosen name (codes "rank") step_word.Rank (Err (fault.Word at)) refl tt)))))))))

text_is : (at : Location) (d : Data) → IfOk (text_in at d) (λ s. as_str d ≡ Some s)
text_is at (string s) = refl
text_is at (integer n) = tt
text_is at (float x) = tt
text_is at (boolean b) = tt
text_is at (datetime t) = tt
text_is at (array ds) = tt
text_is at (table ms) = tt

-- steps laid over an input: a part of the plan is one of the input, or has the word of its step, and its right side too

abbrev IsStepAt : ℕ → List Data → ℕ → Plan → Type 0
IsStepAt n ds k part =
    (word_in ds k ≡ Some (word_of part)) × ((right : Plan) → right_of part ≡ Some right → AreStepsWithin n (side_in ds k) right)

abbrev Follows : ℕ → Plan → List Data → Plan → Type 0
Follows n input ds p =
    steps_of input + length ds < 2 ^ 64 - 1 → (part : Plan) → IsUpTo p part
    → IsUpTo input part ⊎ ((k : ℕ) × (steps_of part ≡ steps_of input + suc k) × IsStepAt n ds k part)

-- from a frame on
started : (n i : ℕ) (ds : List Data) (p : Plan) → length ds ≤ 64 → Follows n (Scan i) ds p → AreStepsWithin (suc n) ds p
started n i ds p few law part up index at =
    elim (law (omega (arith, scan_steps i, few)) part up) [
      | inl u ↦ absurd (omega (arith, at, ap steps_of (u.1 ∙ scan_alone u.0 i), scan_steps i))
      | inr w ↦ subst (λ k. IsStepAt n ds k part) (omega (arith, at, w.1, scan_steps i)) w.2
    ]

-- a frame alone
alone : (n i : ℕ) → AreStepsWithin n [] (Scan i)
alone zero i = tt
alone (suc n) i = started n i [] (Scan i) (omega arith) (λ few part up. inl up)

-- a step that a value says
abbrev IsStep : ℕ → Plan → Data → Plan → Type 0
IsStep n input d next =
    (word : List ℕ) × (right : Option Plan) × IsOver input word right next × (head_of (items_in d) ≡ Some word)
    × ((r : Plan) → right ≡ Some r → AreStepsWithin n (side_steps (slice_get (items_in d) 3)) r)

-- the step itself, or a part of its input
first :
    (n : ℕ) (input next part : Plan) (d : Data) (ds : List Data) → IsStep n input d next → steps_of next ≡ steps_of input + 1
    → (m : ℕ) → part ≡ without_last m next → IsUpTo input part ⊎ ((k : ℕ) × (steps_of part ≡ steps_of input + suc k) × IsStepAt n (d ∷ ds) k part)
first n input next part d ds s counted zero e =
    inr (
      0,
      ap steps_of e ∙ counted,
      (s.3 ∙ ap Some (sym (ap word_of e ∙ s.2.2)), λ right is. s.4 right (sym (ap right_of e ∙ s.2.3) ∙ is)),
    )
first n input next part d ds s counted (suc m) e = inl (m, e ∙ ap (without_last m) s.2.0)

more :
    (n : ℕ) (input next p : Plan) (d : Data) (ds : List Data) → IsStep n input d next → Follows n next ds p → Follows n input (d ∷ ds) p
more n input next p d ds s law few part up =
    let one : steps_of next ≡ one_more (steps_of input) = s.2.1 in
    let counted : steps_of next ≡ steps_of input + 1 = omega (arith, one, few) in
    elim (law (omega (arith, counted, few)) part up) [
      | inl u ↦ first n input next part d ds s counted u.0 u.1
      | inr w ↦ inr (suc w.0, omega (arith, counted, w.1), w.2)
    ]

either_follows :
    (n : ℕ) (input : Plan) (o : Ordering) (r s : Result Plan ViewsFault) (found : Option Data) (d : Data)
    → IfOk r (Follows n input (items_or_none found)) → IfOk s (Follows n input (items_in d))
    → IfOk (match_ordering o r s r) (Follows n input (items_or_none (match_ordering o found (Some d) found)))
either_follows n input Less r s found d g h = g
either_follows n input Equal r s found d g h = h
either_follows n input Greater r s found d g h = g

-- tables have few steps

few_within : (at : Location) (ds : List Data) → IfOk (steps_within at ds) (λ steps. length ds ≤ 64)
few_within at ds = at_test (nat_lt 64 (length ds)) refl
  where
    at_test : (b : Bool) → nat_lt 64 (length ds) ≡ b → IfOk (cond b (Err (fault.Shape at)) (Ok ds)) (λ steps. length ds ≤ 64)
    at_test true e = tt
    at_test false e = grind (arith, nat_tests)

pub array_is : (at : Location) (found : Option Data) → IfOk (array_or_none at found) (λ ds. items_or_none found ≡ ds)
array_is at None = refl
array_is at (Some (array ds)) = refl
array_is at (Some (string s)) = tt
array_is at (Some (integer n)) = tt
array_is at (Some (float x)) = tt
array_is at (Some (boolean b)) = tt
array_is at (Some (datetime t)) = tt
array_is at (Some (table ms)) = tt

few_of_table : (at : Location) (ms : Members) → IfOk (steps_of_table at ms) (λ steps. length (array_at (codes "steps") ms) ≤ 64)
few_of_table at ms =
    then_gives _ (array_or_none at (get_member (codes "steps") ms)) _ (λ ds is.
    let same = given (λ ds. array_at (codes "steps") ms ≡ ds) (array_or_none at (get_member (codes "steps") ms)) ds (array_is at (get_member (codes "steps") ms)) is in
    rw same (few_within at ds))

pub few_of_source : (at : Location) (ms : Members) → IfOk (source_at at ms) (λ source. length (array_at (codes "steps") ms) ≤ 64)
few_of_source at ms =
    then_gives _ (value_at at (codes "from") ms) _ (λ s _. then_gives _ (text_in at s) _ (λ source _.
    then_gives _ (steps_of_table at ms) _ (λ steps is.
    given (λ steps. length (array_at (codes "steps") ms) ≤ 64) (steps_of_table at ms) steps (few_of_table at ms) is)))

few_of_side : (at : Location) (ms : Members) → IfOk (only_source_at at ms) (λ source. length (array_at (codes "steps") ms) ≤ 64)
few_of_side at ms = if_gives _ (has_only_keys (codes "from" ∷ codes "steps" ∷ []) ms) (source_at at ms) _ (few_of_source at ms)

nothing : {A : Type 0} (r : Result A ViewsFault) → IfOk r (λ x. ⊤)
nothing (Ok x) = tt
nothing (Err f) = tt

-- what a step behind its word is: with its right side
abbrev IsApplied : ℕ → Plan → StepWord → Items → Plan → Type 0
IsApplied n input word ds next =
    (right : Option Plan) × IsOver input (word_text word) right next
    × ((r : Plan) → right ≡ Some r → AreStepsWithin n (side_steps (slice_get (list_of ds) 2)) r)

alone_applied : (n : ℕ) (input : Plan) (word : StepWord) (ds : Items) (next : Plan) → IsOver input (word_text word) None next → IsApplied n input word ds next
alone_applied n input word ds next over = (None, over, λ r e. absurd (cc))

joined_applied :
    (n : ℕ) (input p next : Plan) (ds : Items) (side : Data) → slice_get (list_of ds) 2 ≡ Some side → IsOver input (codes "join") (Some p) next
    → AreStepsWithin n (steps_or_none (as_table side)) p → IsApplied n input step_word.Join ds next
joined_applied n input p next ds side there over steps =
    (Some p, over, λ r e. let same : p ≡ r = cc in rw there (subst (AreStepsWithin n (steps_or_none (as_table side))) same steps))

mutual
  unfolding list_of

  pub steps_follow : (n : ℕ) (at : Location) (i : ℕ) (frames : List FrameSpec) (input : Plan) (ds : Items)
      → IfOk (steps_after at i frames input ds) (Follows n input (list_of ds))
  steps_follow n at i frames input no_items = λ few part up. inl up
  steps_follow n at i frames input (item d ds) =
      then_gives _ (step_of (step_at at i) frames input d) _ (λ next is.
      let s = given (IsStep n input d) (step_of (step_at at i) frames input d) next (step_follows n (step_at at i) frames input d) is in
      if_ok_then (steps_after at (i + 1) frames next ds) (steps_follow n at (i + 1) frames next ds) (λ p law. more n input next p d (list_of ds) s law))

  step_follows : (n : ℕ) (at : Location) (frames : List FrameSpec) (input : Plan) (d : Data) → IfOk (step_of at frames input d) (IsStep n input d)
  step_follows n at frames input (array (item w ds)) =
      then_gives _ (text_in at w) _ (λ name text. then_gives _ (step_of_word at name) _ (λ word named.
      let said = given (λ s. as_str w ≡ Some s) (text_in at w) name (text_is at w) text in
      let is = given (λ s. name ≡ word_text s) (step_of_word at name) word (word_is at name) named in
      if_ok_then (applied_step at frames word input ds) (applied_follows n at frames word input ds)
      (λ next a. (word_text word, a.0, a.1, said ∙ ap Some is, a.2))))
  step_follows n at frames input (array no_items) = tt
  step_follows n at frames input (string s) = tt
  step_follows n at frames input (integer i) = tt
  step_follows n at frames input (float x) = tt
  step_follows n at frames input (boolean b) = tt
  step_follows n at frames input (datetime t) = tt
  step_follows n at frames input (table ms) = tt

  applied_follows : (n : ℕ) (at : Location) (frames : List FrameSpec) (word : StepWord) (input : Plan) (ds : Items)
      → IfOk (applied_step at frames word input ds) (IsApplied n input word ds)
  applied_follows n at frames step_word.Filter input ds =
      then_gives _ (only_in at (list_of ds)) _ (λ d _. then_gives _ (expr_of (item_at at 1) d) _ (λ e _.
      alone_applied n input step_word.Filter ds _ (over-Filter input e)))
  applied_follows n at frames step_word.Select input ds =
      then_gives _ (outputs_in at (list_of ds)) _ (λ items _. alone_applied n input step_word.Select ds _ (over-Select input items))
  applied_follows n at frames step_word.WithColumns input ds =
      then_gives _ (outputs_in at (list_of ds)) _ (λ items _. alone_applied n input step_word.WithColumns ds _ (over-WithColumns input items))
  applied_follows n at frames step_word.GroupBy input ds =
      then_gives _ (first_in at (list_of ds)) _ (λ k _. then_gives _ (keys_in (item_at at 1) k.0) _ (λ keys _.
      then_gives _ (aggregates_in at k.1) _ (λ aggregates _. alone_applied n input step_word.GroupBy ds _ (over-GroupBy input keys aggregates))))
  applied_follows n at frames (step_word.Rolling kind) input ds =
      then_gives _ (window_parts at (list_of ds)) _ (λ w _.
      alone_applied n input (step_word.Rolling kind) ds _ (over-Rolling input w.0.0 kind w.0.1 w.1.0 w.1.1))
  applied_follows n at frames step_word.CumSum input ds =
      then_gives _ (pair_in at (list_of ds)) _ (λ p _. then_gives _ (names_in at p.0 p.1) _ (λ names _.
      alone_applied n input step_word.CumSum ds _ (over-CumSum input names.0 names.1)))
  applied_follows n at frames step_word.Rank input ds =
      then_gives _ (rank_parts at (list_of ds)) _ (λ r _. alone_applied n input step_word.Rank ds _ (over-Rank input r.0 r.1 r.2))
  applied_follows n at frames step_word.Join input (item kind (item keys (item right no_items))) =
      then_gives _ (kind_and_keys at kind keys) _ (λ how _. then_gives _ (side_of (item_at at 3) frames right) _ (λ p is.
      joined_applied n input p _ (item kind (item keys (item right no_items))) right refl (over-Join input p how.0 how.1 false)
      (given (AreStepsWithin n (steps_or_none (as_table right))) (side_of (item_at at 3) frames right) p (side_follows n (item_at at 3) frames right) is)))
  applied_follows n at frames step_word.Join input no_items = tt
  applied_follows n at frames step_word.Join input (item a no_items) = tt
  applied_follows n at frames step_word.Join input (item a (item b no_items)) = tt
  applied_follows n at frames step_word.Join input (item kind (item keys (item right (item word no_items)))) =
      then_gives _ (kind_and_keys at kind keys) _ (λ how _. then_gives _ (side_of (item_at at 3) frames right) _ (λ p is.
      then_gives _ (nulls_equal_of at (word ∷ [])) _ (λ equal _.
      joined_applied n input p _ (item kind (item keys (item right (item word no_items)))) right refl (over-Join input p how.0 how.1 equal)
      (given (AreStepsWithin n (steps_or_none (as_table right))) (side_of (item_at at 3) frames right) p (side_follows n (item_at at 3) frames right) is))))
  applied_follows n at frames step_word.Join input (item a (item b (item c (item d (item e ds))))) = tt

  side_follows : (n : ℕ) (at : Location) (frames : List FrameSpec) (d : Data) → IfOk (side_of at frames d) (AreStepsWithin n (steps_or_none (as_table d)))
  side_follows zero at frames d = nothing (side_of at frames d)
  side_follows (suc n) at frames (string name) = then_gives _ (frame_named at name frames) _ (λ i _. alone (suc n) i)
  side_follows (suc n) at frames (table ms) =
      then_gives _ (only_source_at at ms) _ (λ source is. then_gives _ (frame_named at source frames) _ (λ i _.
      let few = given (λ source. length (array_at (codes "steps") ms) ≤ 64) (only_source_at at ms) source (few_of_side at ms) is in
      if_ok_then (steps_at at frames (Scan i) ms) (steps_at_follows n at frames (Scan i) ms)
      (λ p law. started n i (array_at (codes "steps") ms) p few law)))
  side_follows (suc n) at frames (array ds) = tt
  side_follows (suc n) at frames (integer i) = tt
  side_follows (suc n) at frames (float x) = tt
  side_follows (suc n) at frames (boolean b) = tt
  side_follows (suc n) at frames (datetime t) = tt

  pub steps_at_follows : (n : ℕ) (at : Location) (frames : List FrameSpec) (input : Plan) (ms : Members)
      → IfOk (steps_at at frames input ms) (Follows n input (array_at (codes "steps") ms))
  steps_at_follows n at frames input no_members = λ few part up. inl up
  steps_at_follows n at frames input (member k d ms) =
      either_follows n input (slice_cmp nat_cmp (codes "steps") k) (steps_at at frames input ms) (all_steps at frames input d) (get_member (codes "steps") ms) d
      (steps_at_follows n at frames input ms) (all_follow n at frames input d)

  all_follow : (n : ℕ) (at : Location) (frames : List FrameSpec) (input : Plan) (d : Data) → IfOk (all_steps at frames input d) (Follows n input (items_in d))
  all_follow n at frames input (array ds) = steps_follow n at 0 frames input ds
  all_follow n at frames input (string s) = tt
  all_follow n at frames input (integer i) = tt
  all_follow n at frames input (float x) = tt
  all_follow n at frames input (boolean b) = tt
  all_follow n at frames input (datetime t) = tt
  all_follow n at frames input (table ms) = tt

-- the steps of a table that begins with a frame
pub table_steps :
    (n : ℕ) (at : Location) (frames : List FrameSpec) (i : ℕ) (ms : Members) → length (array_at (codes "steps") ms) ≤ 64
    → IfOk (steps_at at frames (Scan i) ms) (AreStepsWithin (suc n) (array_at (codes "steps") ms))
table_steps n at frames i ms few =
    if_ok_then (steps_at at frames (Scan i) ms) (steps_at_follows n at frames (Scan i) ms) (λ p law. started n i (array_at (codes "steps") ms) p few law)
