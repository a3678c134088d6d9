-- A key's place in entries that stand by rising keys.
use Rattle.std.specs.Prelude.{◌≡◌, ℕ, ◌<◌, ◌≤◌, List, length, slice_index_or}
use Rattle.std.specs.declared.cmp.Ordering.{Ordering}
use Rattle.std.specs.declared.cmp.Ordering.TheVariants.{Less, Equal, Greater}

-- i is where k would stand: what stands before is less, and what stands from there on is greater
pub record IsGap {K X : Type 0} (R : K → K → Ordering) (es : List (K × X)) (k : K) (i : ℕ) : Type 0 where
  pub in_range : i ≤ length es
  pub before : (j : ℕ) (d : K × X) → j < i → R (slice_index_or es j d).0 k ≡ Less
  pub after : (j : ℕ) (d : K × X) → i ≤ j → j < length es → R (slice_index_or es j d).0 k ≡ Greater

-- the entry at i has the key k
pub record IsPlace {K X : Type 0} (R : K → K → Ordering) (es : List (K × X)) (k : K) (i : ℕ) : Type 0 where
  pub in_range : i < length es
  pub here : (d : K × X) → R (slice_index_or es i d).0 k ≡ Equal
