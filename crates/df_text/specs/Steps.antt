-- The steps of a view: each is an array that begins with a word. They are applied in order to a plan. A join reads one
-- more plan, its right side, which can have steps of its own.
use Rattle.std.specs.Prelude.{ℕ, ◌+◌, Bool, true, false, List, [], ◌∷◌, codes, Result, Ok, Err, if◌then◌else◌}
use Rattle.std.specs.Ordering.{nat_cmp, match_ordering}
use Rattle.std.specs.Cmp.Lexicographic.{slice_cmp}
use Rattle.std.specs.Str.{bytes_eq}
use Rattle.toml.specs.Data.{Data, string, array, table, Items, no_items, item, Members, no_members, member}
use Rattle.df_ops.specs.declared.joins.How.{How}
use Rattle.df_ops.specs.declared.joins.How.TheVariants as how
use Rattle.df_plan.specs.declared.plan.Plan.{Plan}
use Rattle.df_plan.specs.declared.plan.Plan.TheVariants as plan
use Rattle.df_ops.specs.declared.windows.RollKind.TheVariants as roll
use Rattle.df_text.specs.declared.view_steps.StepWord.{StepWord}
use Rattle.df_text.specs.declared.view_steps.StepWord.TheVariants as step_word
use Rattle.df_text.specs.declared.document.FrameSpec.{FrameSpec}
use Rattle.df_text.specs.declared.document.Location.{Location}
use Rattle.df_text.specs.declared.fault.ViewsFault.{ViewsFault}
use Rattle.df_text.specs.declared.fault.ViewsFault.TheVariants as fault
use Rattle.df_value.specs.Outcomes.{then_next}
use Rattle.df_text.specs.Reading.{read_each}
use Rattle.df_text.specs.Tree.{text_in, array_in, first_in, list_of}
use Rattle.df_text.specs.AggregateItems.{aggregates_in}
use Rattle.df_text.specs.Locations.{item_at, step_at}
use Rattle.df_text.specs.RowWiseSteps.{filter_of, select_of, with_columns_of}
use Rattle.df_text.specs.WindowSteps.{rolling_of, cum_sum_of, rank_of}
use Rattle.df_text.specs.Sources.{only_source_at, frame_named}

-- the step that a word names
abbrev pub step_of_word : Location → List ℕ → Result StepWord ViewsFault
step_of_word at w =
    if bytes_eq w (codes "filter") then Ok step_word.Filter
    else if bytes_eq w (codes "select") then Ok step_word.Select
    else if bytes_eq w (codes "with_columns") then Ok step_word.WithColumns
    else if bytes_eq w (codes "group_by") then Ok step_word.GroupBy
    else if bytes_eq w (codes "join") then Ok step_word.Join
    else if bytes_eq w (codes "rolling_sum") then Ok (step_word.Rolling roll.Sum)
    else if bytes_eq w (codes "rolling_min") then Ok (step_word.Rolling roll.Min)
    else if bytes_eq w (codes "rolling_max") then Ok (step_word.Rolling roll.Max)
    else if bytes_eq w (codes "cum_sum") then Ok step_word.CumSum
    else if bytes_eq w (codes "rank") then Ok step_word.Rank
    else Err (fault.Word at)

-- an array of key names
abbrev pub keys_in : Location → Data → Result (List (List ℕ)) ViewsFault
keys_in at keys = then_next (array_in at keys) (λ ks. read_each (text_in at) ks)

-- an array of key names, and then any number of aggregates
abbrev pub group_by_of : Location → Plan → List Data → Result Plan ViewsFault
group_by_of at input ds =
    then_next (first_in at ds) (λ k. then_next (keys_in (item_at at 1) k.0) (λ keys.
    then_next (aggregates_in at k.1) (λ aggregates. Ok (plan.GroupBy input keys aggregates))))

-- the kind of join that a word names
abbrev pub kind_of_word : Location → List ℕ → Result How ViewsFault
kind_of_word at w =
    if bytes_eq w (codes "inner") then Ok how.Inner
    else if bytes_eq w (codes "left") then Ok how.Left
    else Err (fault.Word at)

-- the kind of join that a value names
abbrev pub kind_in : Location → Data → Result How ViewsFault
kind_in at kind = then_next (text_in at kind) (λ w. kind_of_word at w)

-- the kind of a join, and then an array of key names
abbrev pub kind_and_keys : Location → Data → Data → Result (How × List (List ℕ)) ViewsFault
kind_and_keys at kind keys =
    then_next (kind_in (item_at at 1) kind) (λ h. then_next (keys_in (item_at at 2) keys) (λ names. Ok (h, names)))

-- the items of a join: its kind, its keys and its right side, and after these perhaps one more
abbrev pub join_items : Location → List Data → Result (Data × Data × Data × List Data) ViewsFault
join_items at (kind ∷ keys ∷ right ∷ []) = Ok (kind, keys, right, [])
join_items at (kind ∷ keys ∷ right ∷ word ∷ []) = Ok (kind, keys, right, word ∷ [])
join_items at _ = Err (fault.Shape at)

-- the word after the right side says that nulls are equal
abbrev pub nulls_equal_of_word : Location → List ℕ → Result Bool ViewsFault
nulls_equal_of_word at w = if bytes_eq w (codes "nulls_equal") then Ok true else Err (fault.Word at)

-- whether nulls are equal: not where there is no such word
abbrev pub nulls_equal_of : Location → List Data → Result Bool ViewsFault
nulls_equal_of at [] = Ok false
nulls_equal_of at (d ∷ ds) = then_next (text_in (item_at at 4) d) (nulls_equal_of_word (item_at at 4))

-- the step that a value names, with the items after its word as a list (as `step_of` reads it)
abbrev pub step_in : Location → Data → Result (StepWord × List Data) ViewsFault
step_in at d =
    then_next (array_in at d) (λ ds. then_next (first_in at ds) (λ s. then_next (text_in at s.0) (λ w.
    then_next (step_of_word at w) (λ word. Ok (word, s.1)))))

abbrev mutual
  -- the plan after all steps, in order, of which the first has this number
  pub steps_after : Location → ℕ → List FrameSpec → Plan → Items → Result Plan ViewsFault
  steps_after at n frames input no_items = Ok input
  steps_after at n frames input (item d ds) =
      then_next (step_of (step_at at n) frames input d) (λ next. steps_after at (n + 1) frames next ds)

  -- the plan after a step
  pub step_of : Location → List FrameSpec → Plan → Data → Result Plan ViewsFault
  step_of at frames input (array (item w ds)) =
      then_next (text_in at w) (λ name. then_next (step_of_word at name) (λ word. applied_step at frames word input ds))
  step_of at frames input _ = Err (fault.Shape at)

  -- the plan after a step of this word, with the items after the word
  pub applied_step : Location → List FrameSpec → StepWord → Plan → Items → Result Plan ViewsFault
  applied_step at frames step_word.Filter input ds = filter_of at input (list_of ds)
  applied_step at frames step_word.Select input ds = select_of at input (list_of ds)
  applied_step at frames step_word.WithColumns input ds = with_columns_of at input (list_of ds)
  applied_step at frames step_word.GroupBy input ds = group_by_of at input (list_of ds)
  applied_step at frames (step_word.Rolling kind) input ds = rolling_of at kind input (list_of ds)
  applied_step at frames step_word.CumSum input ds = cum_sum_of at input (list_of ds)
  applied_step at frames step_word.Rank input ds = rank_of at input (list_of ds)
  applied_step at frames step_word.Join input (item kind (item keys (item right no_items))) =
      then_next (kind_and_keys at kind keys) (λ h. then_next (side_of (item_at at 3) frames right) (λ p. Ok (plan.Join input p h.0 h.1 false)))
  applied_step at frames step_word.Join input (item kind (item keys (item right (item word no_items)))) =
      then_next (kind_and_keys at kind keys) (λ h. then_next (side_of (item_at at 3) frames right) (λ p.
      then_next (nulls_equal_of at (word ∷ [])) (λ n. Ok (plan.Join input p h.0 h.1 n))))
  applied_step at frames step_word.Join input _ = Err (fault.Shape at)

  -- the plan of a right side: a frame's name, or a table that begins with a frame
  pub side_of : Location → List FrameSpec → Data → Result Plan ViewsFault
  side_of at frames (string name) = then_next (frame_named at name frames) (λ i. Ok (plan.Scan i))
  side_of at frames (table ms) =
      then_next (only_source_at at ms) (λ source. then_next (frame_named at source frames) (λ i. steps_at at frames (plan.Scan i) ms))
  side_of at frames _ = Err (fault.Shape at)

  -- the plan after the steps at the key `steps`; without that key it is the plan before
  pub steps_at : Location → List FrameSpec → Plan → Members → Result Plan ViewsFault
  steps_at at frames input no_members = Ok input
  steps_at at frames input (member k d ms) =
      match_ordering (slice_cmp nat_cmp (codes "steps") k) (steps_at at frames input ms) (all_steps at frames input d) (steps_at at frames input ms)

  -- the plan after the steps of an array
  pub all_steps : Location → List FrameSpec → Plan → Data → Result Plan ViewsFault
  all_steps at frames input (array ds) = steps_after at 0 frames input ds
  all_steps at frames input _ = Err (fault.Shape at)
