-- What callers see of claims and of their seats.
use Rattle.std.specs.Prelude.{◌≡◌, ℕ, ◌<◌, ◌++◌, List, [], All, Option, Some, None, option_to_list}
use Rattle.std.specs.List.{sum_by}
use mathlib.Core.Option.{some}
use lib.ListN.{get_elem?}
use Rattle.atomic_table.specs.Table.{State}
use Rattle.atomic_table.specs.Seated.{TableId}
use Rattle.df_claims.specs.declared.rule.Draws.{Draws}
use Rattle.df_claims.specs.Lawful.{Lawful, most_seats, times_in}

-- which claims they are, and of how many numbers
pub record ClaimsView : Type 0 where
  pub table : TableId
  pub total : ℕ

-- which claims a seat is of, its index among their seats, and what was drawn with it
pub record SeatView : Type 0 where
  pub table : TableId
  pub id : ℕ
  pub draws : Draws

-- the seat is one of these claims
pub record IsSeatOf (c : ClaimsView) (s : SeatView) : Type 0 where
  pub same_table : s.table ≡ c.table
  pub part : 0 < s.draws.parts
  pub total : s.draws.total ≡ c.total

-- nothing was drawn with it
pub record IsFresh (s : SeatView) : Type 0 where
  pub empty : s.draws.numbers ≡ []
  pub unfinished : s.draws.misses ≡ 0

-- it got none
abbrev pub IsFinished : SeatView → Type 0
IsFinished s = 0 < s.draws.misses

-- they are seats of these claims, and have all parts, so that no other seat has any
pub record AreAllSeats (c : ClaimsView) (seats : List SeatView) : Type 0 where
  pub each : All (IsSeatOf c) seats
  pub parts : sum_by (λ s. s.draws.parts) seats ≡ most_seats

-- the misses of a seat after an answer
abbrev pub misses_after : Option ℕ → ℕ → ℕ
misses_after (Some n) misses = misses
misses_after None misses = 1

-- the seat after an answer: its list has grown by the number drawn, or it is finished
abbrev pub seat_after : Option ℕ → SeatView → SeatView
seat_after answer s = record s { draws = record s.draws { numbers = s.draws.numbers ++ option_to_list answer; misses = misses_after answer s.draws.misses } }

-- whenever the rule holds and the seat is as it is here, each number below the total is drawn, once
abbrev pub AreAllDrawn : ClaimsView → SeatView → Type 0
AreAllDrawn c seat = (s : State (Unit {0}) Draws) → Lawful c.total s → get_elem? s.views seat.id ≡ some seat.draws → (n : ℕ) → n < c.total → times_in n s.views ≡ 1
