-- Parts that are put behind others.
use Rattle.std.specs.Prelude.{◌≡◌, ◌<◌, ℕ, List, ◌++◌, length}
use Rattle.df_tree.specs.Leaves.{items_of_parts}
use Rattle.df_tree.specs.Level.{AllParts}

-- behind the others stand parts of this rank, one at least, that hold these items; where they are two a root over them is no higher than a root may be
pub record ArePut {I : Type 0} (rank : ℕ) (xs : List I) (old new : List (List (List I × ℕ) × ℕ)) : Type 0 where
  pub more : List (List (List I × ℕ) × ℕ)
  pub put : new ≡ old ++ more
  pub parts : AllParts {I = I} rank more
  pub holds : items_of_parts {I = I} more ≡ xs
  pub some : 0 < length more
  pub few : 1 < length more → rank < 63
