-- What a dashboard knows.
use Rattle.std.specs.Prelude.{◌+◌, ◌<◌, ◌≤◌, ℕ, IfSome, IsSomeAnd, List, Option, option_map, find, bytes_eq, length}
use mathlib.Core.List.{IsPrefix}
use Rattle.df_value.specs.declared.cell.CellType.{CellType}
use Rattle.df_state.specs.declared.state.State.{State}

-- the states up to the newest version that was taken, the longest list of states that was learnt, the number of the version
-- that was given last, if one was, and the views with which the service was opened, by name, with their columns
pub record DashboardParts : Type 0 where
  pub taken : List State
  pub learnt : List State
  pub given : Option ℕ
  pub views : List (List ℕ × List (List ℕ × CellType))

-- a version was taken whose history begins with all that was taken and learnt before
abbrev pub IsLater : DashboardParts → DashboardParts → Type 0
IsLater old new = IsPrefix old.taken new.taken × IsPrefix old.learnt new.taken

-- a history goes on behind the version of a number, if there is a number
abbrev pub GoesOnBehind : Option ℕ → List State → Type 0
GoesOnBehind number history = IfSome number (λ n. n + 1 < length history)

-- it ends by the version of a number
abbrev pub EndsBy : Option ℕ → List State → Type 0
EndsBy number history = IsSomeAnd number (λ n. length history ≤ n + 1)

-- the columns of the view of a name
abbrev pub columns_of_view : List ℕ → List (List ℕ × List (List ℕ × CellType)) → Option (List (List ℕ × CellType))
columns_of_view name views = option_map (λ v. v.1) (find (λ v. bytes_eq v.0 name) views)
