-- The steps of a plan that was read of a document, beside those that stand there.
use Rattle.std.specs.Prelude.{◌≡◌, ◌+◌, ⊤, ℕ, zero, suc, List, [], Option, Some, None, slice_get}
use Rattle.toml.specs.Data.{Data, Members, as_table}
use Rattle.df_plan.specs.declared.plan.Plan.{Plan}
use Rattle.df_text.specs.declared.document.ViewSpec.{ViewSpec}
use Rattle.df_text.specs.declared.document.Views.{Views}
use Rattle.df_explain.specs.PlanPlaces.{most_sides, right_of, steps_of, word_of, IsUpTo}
use Rattle.df_explain.specs.Trees.{items_or_none, steps_in, steps_or_none, word_in}

-- the steps of a right side; those of a frame's name are none
abbrev pub side_steps : Option Data → List Data
side_steps None = []
side_steps (Some side) = steps_or_none (as_table side)

-- the steps of the right side of the join of this index
abbrev pub side_in : List Data → ℕ → List Data
side_in steps index = side_steps (slice_get (items_or_none (slice_get steps index)) 3)

-- Each step of a plan has the word of the step of its number among these, and so in its right side, through so many right
-- sides within right sides.
abbrev pub AreStepsWithin : ℕ → List Data → Plan → Type 0
AreStepsWithin zero steps p = ⊤
AreStepsWithin (suc n) steps p =
    (part : Plan) → IsUpTo p part → (index : ℕ) → steps_of part ≡ index + 1
    → (word_in steps index ≡ Some (word_of part)) × ((right : Plan) → right_of part ≡ Some right → AreStepsWithin n (side_in steps index) right)

-- through as many as are told of
abbrev pub AreStepsOf : List Data → Plan → Type 0
AreStepsOf steps p = AreStepsWithin (most_sides + 1) steps p

-- the steps of each view of a document are those that stand in its tree
abbrev pub HasStepsOf : Members → Views → Type 0
HasStepsOf tree document =
    (index : ℕ) → (view : ViewSpec) → slice_get document.views index ≡ Some view → AreStepsOf (steps_in index tree) view.plan
