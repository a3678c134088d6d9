-- Steps and right sides, with arrays and tables seen as the code sees them: as lists, and by their keys.
use Rattle.std.proofs.Common.{◌≡◌, ℕ, List, [], ◌∷◌, Option, Some, Result, Ok, Err, Ordering, Less, Equal, Greater, nat_cmp, codes, refl, sym, ap}
use Rattle.std.specs.Cmp.Lexicographic.{slice_cmp}
use Rattle.std.specs.Ordering.{match_ordering}
use Rattle.toml.specs.Data.{Data, string, integer, float, boolean, datetime, array, table, Items, no_items, item, Members, no_members, member, get_member}
use Rattle.toml.specs.View.{items_of}
use Rattle.df_plan.specs.declared.plan.Plan.{Plan, Join}
use Rattle.df_text.specs.declared.document.FrameSpec.{FrameSpec}
use Rattle.df_text.specs.declared.document.Location.{Location}
use Rattle.df_text.specs.declared.view_steps.StepWord.{StepWord}
use Rattle.df_text.specs.declared.view_steps.StepWord.TheVariants as step_word
use Rattle.df_text.specs.declared.fault.ViewsFault.{ViewsFault}
use Rattle.df_value.specs.Outcomes.{then_next}
use Rattle.df_text.specs.Tree.{text_in, array_in, list_of}
use Rattle.df_text.specs.Locations.{item_at}
use Rattle.df_text.specs.Sources.{array_or_none}
use Rattle.df_text.proofs.TreeFacts.{list_of-items}
use Rattle.df_text.specs.Steps.{step_of_word, kind_and_keys, join_items, nulls_equal_of, step_in, steps_after, step_of, applied_step, side_of, steps_at, all_steps}

-- the list of some items, as items
pub items_of-list : (ds : Items) → items_of (list_of ds) ≡ ds
unfolding list_of
items_of-list no_items = refl
items_of-list (item d ds) = ap (item d) (items_of-list ds)

after_word : (apply : StepWord → Items → Result Plan ViewsFault) (ds : Items) (r : Result StepWord ViewsFault)
    → then_next r (λ word. apply word ds) ≡ then_next (then_next {B = StepWord × List Data} r (λ word. Ok (word, list_of ds))) (λ s. apply s.0 (items_of s.1))
after_word apply ds (Ok word) = ap (apply word) (sym (items_of-list ds))
after_word apply ds (Err f) = refl

after_text : (at : Location) (apply : StepWord → Items → Result Plan ViewsFault) (ds : Items) (r : Result (List ℕ) ViewsFault)
    → then_next r (λ name. then_next (step_of_word at name) (λ word. apply word ds))
    ≡ then_next (then_next {B = StepWord × List Data} r (λ name. then_next (step_of_word at name) (λ word. Ok (word, list_of ds)))) (λ s. apply s.0 (items_of s.1))
after_text at apply ds (Ok name) = after_word apply ds (step_of_word at name)
after_text at apply ds (Err f) = refl

-- a step is its word, and then the items after it
pub step_by_word : (at : Location) (frames : List FrameSpec) (input : Plan) (d : Data)
    → step_of at frames input d ≡ then_next (step_in at d) (λ s. applied_step at frames s.0 input (items_of s.1))
unfolding list_of
step_by_word at frames input (array (item w ds)) = after_text at (λ word rest. applied_step at frames word input rest) ds (text_in at w)
step_by_word at frames input (array no_items) = refl
step_by_word at frames input (string s) = refl
step_by_word at frames input (integer n) = refl
step_by_word at frames input (float x) = refl
step_by_word at frames input (boolean b) = refl
step_by_word at frames input (datetime t) = refl
step_by_word at frames input (table ms) = refl

-- a join has three items, or four
pub join_by_items : (at : Location) (frames : List FrameSpec) (input : Plan) (ds : List Data)
    → applied_step at frames step_word.Join input (items_of ds)
    ≡ then_next (join_items at ds) (λ t. then_next (kind_and_keys at t.0 t.1) (λ h. then_next (side_of (item_at at 3) frames t.2) (λ p.
    then_next (nulls_equal_of at t.3) (λ n. Ok (Join input p h.0 h.1 n)))))
join_by_items at frames input [] = refl
join_by_items at frames input (a ∷ []) = refl
join_by_items at frames input (a ∷ b ∷ []) = refl
join_by_items at frames input (a ∷ b ∷ c ∷ []) = refl
join_by_items at frames input (a ∷ b ∷ c ∷ d ∷ []) = refl
join_by_items at frames input (a ∷ b ∷ c ∷ d ∷ e ∷ ds) = refl

steps_of_array : (at : Location) (frames : List FrameSpec) (input : Plan) (d : Data)
    → all_steps at frames input d ≡ then_next (array_in at d) (λ ds. steps_after at 0 frames input (items_of ds))
steps_of_array at frames input (array ds) = ap (steps_after at 0 frames input) (sym (items_of-list ds))
steps_of_array at frames input (string s) = refl
steps_of_array at frames input (integer n) = refl
steps_of_array at frames input (float x) = refl
steps_of_array at frames input (boolean b) = refl
steps_of_array at frames input (datetime t) = refl
steps_of_array at frames input (table ms) = refl

-- the plan after the steps that were found at a key
after_found : Location → List FrameSpec → Plan → Option Data → Result Plan ViewsFault
after_found at frames input found = then_next (array_or_none at found) (λ ds. steps_after at 0 frames input (items_of ds))

steps_at_key : (at : Location) (frames : List FrameSpec) (input : Plan) (o : Ordering) (d : Data) (r : Result Plan ViewsFault) (found : Option Data)
    → r ≡ after_found at frames input found
    → match_ordering o r (all_steps at frames input d) r ≡ after_found at frames input (match_ordering o found (Some d) found)
unfolding after_found
steps_at_key at frames input Less d r found e = e
steps_at_key at frames input Equal d r found e = steps_of_array at frames input d
steps_at_key at frames input Greater d r found e = e

-- the steps of a table are those that a look-up finds
pub steps_by_key : (at : Location) (frames : List FrameSpec) (input : Plan) (ms : Members)
    → steps_at at frames input ms ≡ then_next (array_or_none at (get_member (codes "steps") ms)) (λ ds. steps_after at 0 frames input (items_of ds))
unfolding after_found
steps_by_key at frames input no_members = refl
steps_by_key at frames input (member k d ms) =
    steps_at_key at frames input (slice_cmp nat_cmp (codes "steps") k) d _ _ (steps_by_key at frames input ms)

-- a step that reads no other frames has its items as a list
pub plain_step : (apply : List Data → Result Plan ViewsFault) (ds : List Data) → apply (list_of (items_of ds)) ≡ apply ds
plain_step apply ds = ap apply (list_of-items ds)
