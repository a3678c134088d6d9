-- Where an item stands in parts.
use Rattle.std.specs.Prelude.{◌≡◌, ◌<◌, ◌+◌, ℕ, List, ◌∷◌, ◌++◌, length}
use Rattle.df_tree.specs.Leaves.{items, leaves_of_parts}

-- the item at an index of all of them is in the part at an index, behind so many items of it
pub record IsSpot {I : Type 0} (ks : List (List (List I × ℕ) × ℕ)) (index at rest : ℕ) : Type 0 where
  pub front : List (List (List I × ℕ) × ℕ)
  pub part : List (List I × ℕ) × ℕ
  pub back : List (List (List I × ℕ) × ℕ)
  pub cut : ks ≡ front ++ part ∷ back
  pub at_is : at ≡ length front
  pub index_is : index ≡ length (items {I = I} (leaves_of_parts {I = I} front)) + rest
  pub within : rest < length (items {I = I} part.0)
