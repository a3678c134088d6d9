-- A seat that cuts off a part keeps the rule.
use Rattle.std.proofs.Common.{◌≡◌, ℕ, ◌+◌, ◌<◌, ◌≤◌, List, [], ◌∷◌, ◌++◌, All, length, set, refl, ◌∙◌, subst, ⊎_elim, arith, length-append}
use Rattle.std.proofs.lemmas.List.Sums.{sum_by_push}
use Rattle.std.proofs.lemmas.List.Elements.{All-push}
use Rattle.std.specs.List.{sum_by}
use Rattle.atomic_table.specs.Seated.{TableId}
use Rattle.atomic_table.specs.Table.{Splits}
use Rattle.atomic_table.proofs.Lists.{at_snoc}
use Rattle.df_claims.specs.declared.rule.Draws.{Draws}
use Rattle.df_claims.specs.Lawful.{FitsSeat, Lawful, less_a_part, one_part, times, times_in}
use Rattle.df_claims.specs.Seats.{AreAllSeats, ClaimsView, IsFresh, IsSeatOf, SeatView}
use Rattle.df_claims.proofs.Sums.{sum_by-set}
use Rattle.df_claims.proofs.Keeping.{fits-set}

pub splits : (total id : ℕ) (v : Draws) → v.misses ≡ 0 → 1 < v.parts → Splits (Lawful total) id v (less_a_part v) (one_part v)
splits total id v fresh some_parts s h at =
    let left : Draws = less_a_part v in
    let right : Draws = one_part v in
    let sum : (f : Draws → ℕ) → sum_by f (set s.views id left ++ right ∷ []) + f v ≡ sum_by f s.views + f left + f right = λ f. omega (arith, sum_by_push f (set s.views id left) right, sum_by-set f s.views id v left at) in
    let same : (n : ℕ) → times_in n (set s.views id left ++ right ∷ []) ≡ times_in n s.views = λ n. omega (arith, sum (λ u. times n u.numbers)) in
    let word : ℕ = h.word in
    let knows : v.total ≡ total = (h.each id v at).knows in
    record {
      word = h.word;
      words = h.words;
      small = h.small;
      once = λ n less. same n ∙ h.once n less;
      no_other = λ n more. same n ∙ h.no_other n more;
      counted = omega (arith, h.counted, sum (λ u. u.misses), fresh);
      parts = omega (arith, h.parts, sum (λ u. u.parts), some_parts);
      each = λ j u e. ⊎_elim (λ old. fits-set total s.views id left h.each (record { missed_once = omega (arith, fresh); bounded = omega (arith, fresh); knows = knows }) j u old)
          (λ (new : right ≡ u). subst (FitsSeat total) new (record { missed_once = omega arith; bounded = omega arith; knows = knows })) (at_snoc (set s.views id left) right u j e);
    }

-- before the turn of this number, counted from 1, a part was cut off in each turn, and the seats have these parts
pub record HasCut (c : ClaimsView) (turn : ℕ) (table : TableId) (v : Draws) (seats : List SeatView) : Type 0 where
  pub same_table : table ≡ c.table
  pub total : v.total ≡ c.total
  pub numbers : v.numbers ≡ []
  pub misses : v.misses ≡ 0
  pub left : v.parts + turn ≡ 17
  pub cut : sum_by (λ s. s.draws.parts) seats + 1 ≡ turn
  pub count : length seats + 1 ≡ turn
  pub fresh : All IsFresh seats
  pub each : All (IsSeatOf c) seats

module _ (c : ClaimsView) (turn : ℕ) (table : TableId) (v : Draws) (seats : List SeatView) where
  -- the seat itself goes behind those that were cut from it
  pub cut-last : (id : ℕ) → turn ≤ 16 → HasCut c turn table v seats → AreAllSeats c (seats ++ record { table = table; id = id; draws = v } ∷ [])
  cut-last id few h = let new : SeatView = record { table = table; id = id; draws = v } in record {
    each = All-push (IsSeatOf c) seats new h.each (record { same_table = h.same_table; part = omega (arith, h.left, few); total = h.total });
    parts = omega (arith, sum_by_push (λ (s : SeatView). s.draws.parts) seats new, h.left, h.cut);
  }

  pub cut-last-fresh : (id : ℕ) → HasCut c turn table v seats → All IsFresh (seats ++ record { table = table; id = id; draws = v } ∷ [])
  cut-last-fresh id h = All-push IsFresh seats _ h.fresh (record { empty = h.numbers; unfinished = h.misses })

  -- one part more
  pub cut-more : (table' : TableId) (id : ℕ) → table' ≡ c.table → turn ≤ 16 → HasCut c turn table v seats
      → HasCut c (turn + 1) table (less_a_part v) (seats ++ record { table = table'; id = id; draws = one_part v } ∷ [])
  cut-more table' id same few h = let new : SeatView = record { table = table'; id = id; draws = one_part v } in record {
    same_table = h.same_table;
    total = h.total;
    numbers = h.numbers;
    misses = h.misses;
    left = omega (arith, h.left, few);
    cut = omega (arith, sum_by_push (λ (s : SeatView). s.draws.parts) seats new, h.cut);
    count = omega (arith, length-append seats (new ∷ []), h.count);
    fresh = All-push IsFresh seats new h.fresh (record { empty = refl; unfinished = refl });
    each = All-push (IsSeatOf c) seats new h.each (record { same_table = same; part = omega arith; total = h.total });
  }
