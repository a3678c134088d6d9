-- Texts by their places in a pool.
use Rattle.std.specs.Prelude.{ℕ, ◌≤◌, Bool, true, nat_lt, T, List, [], Option, Some, None, length, slice_index_or}
use Rattle.std.specs.List.{list_all}
use Rattle.std.specs.Borrow.{Bor}

-- the text at a place, or none for a null
abbrev pub pool_text : List (List ℕ) → Option ℕ → Option (List ℕ)
pool_text pool None = None
pool_text pool (Some p) = Some (slice_index_or pool p [])

-- whether a place lies below n, or is none
abbrev pub is_below : ℕ → Option ℕ → Bool
is_below n None = true
is_below n (Some p) = nat_lt p n

-- the text that is lent, if one is
abbrev pub text_now : Option (Bor (List ℕ)) → Option (List ℕ)
text_now None = None
text_now (Some r) = Some r.now

-- the places lie in the pool, which has no more texts than there are places
pub record ArePlaces (pool : List (List ℕ)) (places : List (Option ℕ)) : Type 0 where
  pub below : T (list_all (is_below (length pool)) places)
  pub few : length pool ≤ length places
