-- Where the sum of the measures first passes a test.
use Rattle.std.specs.Prelude.{◌≡◌, ◌<◌, ◌≤◌, ◌+◌, ℕ, Bool, true, false, List, ◌∷◌, ◌++◌, length, take}
use Rattle.df_tree.specs.Leaves.{leaves_of_parts, items}
use Rattle.df_tree.specs.Laws.{total}

-- the item at an index is the first one up to and with which the sum passes
pub record IsFirst {I M : Type 0} (none : M) (plus : M → M → M) (f : I → M) (passes : M → Bool) (xs : List I) (at : ℕ) : Type 0 where
  pub within : at < length xs
  pub before : (k : ℕ) → k ≤ at → passes (total none plus f (take k xs)) ≡ false
  pub now : passes (total none plus f (take (at + 1) xs)) ≡ true

-- and those before it add up to this sum
pub record IsFirstWithSum {I M : Type 0} (none : M) (plus : M → M → M) (f : I → M) (passes : M → Bool) (xs : List I) (at : ℕ) (sum : M) : Type 0 where
  pub first : IsFirst {I = I} {M = M} none plus f passes xs at
  pub sum_is : sum ≡ total none plus f (take at xs)

-- with that item the sum of it, of those before it, and of what is before all of them passes; without it they have this sum
pub record IsFound {I M : Type 0} (none : M) (plus : M → M → M) (f : I → M) (passes : M → Bool) (before : M) (xs : List I) (at : ℕ) (sum : M) : Type 0 where
  pub within : at < length xs
  pub sum_is : sum ≡ plus before (total none plus f (take at xs))
  pub not_yet : passes (plus before (total none plus f (take at xs))) ≡ false
  pub now : passes (plus before (total none plus f (take (at + 1) xs))) ≡ true

-- with the part at an index the sum passes; so many items are before it, with this sum
pub record IsReached {I M : Type 0} (none : M) (plus : M → M → M) (f : I → M) (passes : M → Bool) (before : M) (ks : List (List (List I × ℕ) × ℕ)) (at skipped : ℕ) (sum : M) : Type 0 where
  pub front : List (List (List I × ℕ) × ℕ)
  pub part : List (List I × ℕ) × ℕ
  pub back : List (List (List I × ℕ) × ℕ)
  pub cut : ks ≡ front ++ part ∷ back
  pub at_is : at ≡ length front
  pub skipped_is : skipped ≡ length (items {I = I} (leaves_of_parts {I = I} front))
  pub sum_is : sum ≡ plus before (total none plus f (items {I = I} (leaves_of_parts {I = I} front)))
  pub not_yet : passes sum ≡ false
  pub now : passes (plus sum (total none plus f (items {I = I} part.0))) ≡ true
