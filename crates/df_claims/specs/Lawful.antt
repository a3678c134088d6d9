-- The rule of the claims: each number below the total is drawn at most once. It speaks of the word, which each draw raises by one, and of what each seat knows.
use Rattle.std.specs.Prelude.{◌≡◌, ℕ, ◌+◌, ◌-◌, ◌<◌, ◌≤◌, ◌==◌, ◌^◌, min, List, [], ◌∷◌, ◌++◌, count_by}
use Rattle.std.specs.List.{sum_by}
use mathlib.Core.Option.{some}
use lib.ListN.{get_elem?}
use Rattle.atomic_table.specs.Table.{State, Me, Step}
use Rattle.df_claims.specs.declared.rule.Draws.{Draws}

-- how many seats claims may have. The claims have as many parts, and each seat has one or more of them
abbrev pub most_seats : ℕ
most_seats = 16

-- a seat of so many parts that drew nothing yet
abbrev pub fresh_draws : ℕ → ℕ → Draws
fresh_draws parts total = record { numbers = []; misses = 0; parts = parts; total = total }

-- the first seat has all parts
abbrev pub first_draws : ℕ → Draws
first_draws total = fresh_draws most_seats total

-- how often a number stands in a list
abbrev pub times : ℕ → List ℕ → ℕ
times n xs = count_by (λ x. x == n) xs

-- how often all seats together drew a number
abbrev pub times_in : ℕ → List Draws → ℕ
times_in n views = sum_by (λ v. times n v.numbers) views

-- what holds of one seat: it got none once at most, and no more often than it has parts, and it knows the total
pub record FitsSeat (total : ℕ) (v : Draws) : Type 0 where
  pub missed_once : v.misses ≤ 1
  pub bounded : v.misses ≤ v.parts
  pub knows : v.total ≡ total

-- The numbers below the lesser of word and total are drawn, each once, and no other. The word is the count of these and of the answers that there was none, of which there are no more than parts: so it cannot wrap, and a seat got none only where the word is past the total.
pub record Lawful (total : ℕ) (s : State (Unit {0}) Draws) : Type 0 where
  pub word : ℕ
  pub words : s.words ≡ word ∷ []
  pub small : total ≤ 2 ^ 32
  pub once : (n : ℕ) → n < min word total → times_in n s.views ≡ 1
  pub no_other : (n : ℕ) → min word total ≤ n → times_in n s.views ≡ 0
  pub counted : word ≡ min word total + sum_by (λ v. v.misses) s.views
  pub parts : sum_by (λ v. v.parts) s.views ≡ most_seats
  pub each : (seat : ℕ) (v : Draws) → get_elem? s.views seat ≡ some v → FitsSeat total v

-- the seat drew one more number
abbrev pub having_drawn : ℕ → Draws → Draws
having_drawn n v = record v { numbers = v.numbers ++ n ∷ [] }

-- the seat got none
abbrev pub having_missed : Draws → Draws
having_missed v = record v { misses = 1 }

-- a draw: the number found, if it is below the total
pub record Drew (s : Step (Unit {0})) (m : Me (Unit {0}) Draws) (n : ℕ) (m' : Me (Unit {0}) Draws) : Type 0 where
  pub below : n < m.0.total → m'.0 ≡ having_drawn n m.0
  pub above : m.0.total ≤ n → m'.0 ≡ having_missed m.0
  pub slots : m'.1 ≡ m.1

-- a part is cut off
abbrev pub less_a_part : Draws → Draws
less_a_part v = record v { parts = v.parts - 1 }

-- and goes to a new seat
abbrev pub one_part : Draws → Draws
one_part v = fresh_draws 1 v.total
