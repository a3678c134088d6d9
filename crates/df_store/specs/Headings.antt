-- The views of a state by their names and their plans, and those that a load registered.
use Rattle.std.specs.Prelude.{◌≡◌, ◌++◌, ℕ, List, Some, map}
use Rattle.df_plan.specs.CheckedParts.{CheckedParts}
use Rattle.df_state.specs.Changes.{after}
use Rattle.df_state.specs.declared.change.Change.TheVariants.{Register}
use Rattle.df_state.specs.declared.state.State.{State}
use Rattle.df_versions.specs.Histories.{last_state}

-- the views of a state, each by its name and its plan
abbrev pub headings_of : State → List (List ℕ × CheckedParts)
headings_of s = map (λ v. (v.name, v.plan)) s.views

-- these views stand last in a state, in their order
pub record HasLastViews (views : List (List ℕ × CheckedParts)) (s : State) : Type 0 where
  pub others : List (List ℕ × CheckedParts)
  pub are : headings_of s ≡ others ++ views

-- the same of the last state of a history
abbrev pub HaveLastViews : List (List ℕ × CheckedParts) → List State → Type 0
HaveLastViews views history = (s : State) → last_state history ≡ Some s → HasLastViews views s

-- the last state of one history is what the registration of a view made of that of the other
pub record IsRegistered (view : List ℕ × CheckedParts) (old new : List State) : Type 0 where
  pub before : State
  pub was : last_state old ≡ Some before
  pub is : last_state new ≡ Some (after before (Register view.0 view.1))
