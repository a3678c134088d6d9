-- Where a value stands in counts by rising value.
use Rattle.std.specs.Prelude.{◌≡◌, ℕ, Bool, List, ◌∷◌, drop, T}
use Rattle.std.specs.Ordering.{is_lt}
use Rattle.std.specs.declared.cmp.Ordering.TheVariants.{Equal}
use Rattle.std.specs.FinMap.Entries.{below_all}
use Rattle.df_value.specs.CellOrder.{cell_cmp}
use Rattle.df_value.specs.declared.cell.Cell.{Cell}

-- whether the value of an entry is less than this one
abbrev pub is_below : Cell → Cell × ℕ → Bool
is_below v e = is_lt (cell_cmp e.0 v)

-- behind so many entries stands that of this value
pub record IsThere (es : List (Cell × ℕ)) (place : ℕ) (v : Cell) : Type 0 where
  pub entry : Cell × ℕ
  pub back : List (Cell × ℕ)
  pub cut : drop place es ≡ entry ∷ back
  pub tie : Equal ≡ cell_cmp v entry.0

-- all values behind so many entries are greater than this one
abbrev pub IsGap : List (Cell × ℕ) → ℕ → Cell → Type 0
IsGap es place v = T (below_all cell_cmp v (drop place es))
