-- A predicate that holds for the items before a place, and for none behind it.
use Rattle.std.specs.Prelude.{◌≡◌, ◌≤◌, ℕ, suc, Bool, true, false, List, [], ◌∷◌, length, take, drop}
use Rattle.std.specs.List.{AllByRecursion}
use Rattle.df_tree.specs.Laws.{total}
use Rattle.df_tree.specs.Leaves.{leaves_of_parts, items}

-- behind an item for which it does not hold, it holds for none
abbrev pub IsPartitioned : {I : Type 0} → (I → Bool) → List I → Type 0
IsPartitioned holds [] = Unit {0}
IsPartitioned holds (x ∷ xs) = (holds x ≡ false → AllByRecursion (λ y. holds y ≡ false) xs) × IsPartitioned holds xs

-- it holds for so many items, and for none behind them
pub record IsPlace {I : Type 0} (holds : I → Bool) (xs : List I) (count : ℕ) : Type 0 where
  pub within : count ≤ length xs
  pub before : AllByRecursion (λ x. holds x ≡ true) (take count xs)
  pub behind : AllByRecursion (λ x. holds x ≡ false) (drop count xs)

-- and these add up to this sum
pub record IsPlaceWithSum {I M : Type 0} (none : M) (plus : M → M → M) (f : I → M) (holds : I → Bool) (xs : List I) (count : ℕ) (sum : M) : Type 0 where
  pub place : IsPlace {I = I} holds xs count
  pub sum_is : sum ≡ total none plus f (take count xs)

-- it holds for the items of so many parts, and for none behind the next one; so many items are in them, with this sum
pub record IsBoundary {I M : Type 0} (none : M) (plus : M → M → M) (f : I → M) (holds : I → Bool) (ks : List (List (List I × ℕ) × ℕ)) (at skipped : ℕ) (sum : M) : Type 0 where
  pub within : at ≤ length ks
  pub skipped_is : skipped ≡ length (items {I = I} (leaves_of_parts {I = I} (take at ks)))
  pub sum_is : sum ≡ total none plus f (items {I = I} (leaves_of_parts {I = I} (take at ks)))
  pub before : AllByRecursion (λ x. holds x ≡ true) (items {I = I} (leaves_of_parts {I = I} (take at ks)))
  pub behind : AllByRecursion (λ x. holds x ≡ false) (items {I = I} (leaves_of_parts {I = I} (drop (suc at) ks)))
