-- Rows that stand one behind the other in a table, under numbers that rise by one.
use Rattle.std.specs.Prelude.{◌≡◌, ℕ, ◌+◌, ◌<◌, List, length, slice_index_or}
use Rattle.df_value.specs.declared.cell.Cell.{Cell}
use Rattle.df_value.specs.declared.cell.Cell.TheVariants as cell
use Rattle.df_column.specs.declared.tag.Tag.{Tag}

-- these rows stand among tagged rows from an index on, at tags whose first numbers rise by one from this one
pub record StandFrom (tagged : List (Tag × List Cell)) (at first : ℕ) (rows : List (List Cell)) : Type 0 where
  pub numbers : (k : ℕ) (d : Tag × List Cell) → k < length rows → (slice_index_or tagged (at + k) d).0.first ≡ first + k
  pub rows_are : (k : ℕ) (d : Tag × List Cell) → k < length rows → (slice_index_or tagged (at + k) d).1 ≡ slice_index_or rows k d.1

-- so many things of a list, from an index on, are those of another list from an index on
pub record AreThose {X : Type 0} (xs : List X) (at : ℕ) (ys : List X) (from count : ℕ) : Type 0 where
  pub each : (k : ℕ) (d : X) → k < count → slice_index_or xs (at + k) d ≡ slice_index_or ys (from + k) d

-- so many cells of a list, from an index on, are null
pub record AreNull (cells : List Cell) (at count : ℕ) : Type 0 where
  pub each : (k : ℕ) (d : Cell) → k < count → slice_index_or cells (at + k) d ≡ cell.Null
