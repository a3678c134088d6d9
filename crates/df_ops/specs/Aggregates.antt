-- What an aggregate takes of a list of cells, those of a group or a window, as the Polars Python reference has `len`, `count`, `sum`, `min`,
-- `max`, `first`, `last`, `n_unique` and `mean` with their null rules. This project's own choice: a sum of 64-bit
-- integers is kept in 128 bits, where it never wraps, and a mean is the pair of that sum and the count.
use Rattle.std.specs.Prelude.{◌≡◌, ◌≢◌, ◌+◌, ◌++◌, ℕ, ℤ, Bool, true, false, zero, suc, pos, ◌-◌, ◌+ℤ◌, List, [], ◌∷◌, Option, Some, None, not, filter, find, length, map, fold, slice_get, unwrap_or}
use Rattle.std.specs.List.{list_all}
use Rattle.std.specs.Ordering.{is_lt, is_gt}
use Rattle.df_value.specs.declared.cell.Cell.{Cell}
use Rattle.df_value.specs.declared.cell.Cell.TheVariants as cell
use Rattle.df_value.specs.CellOrder.{cell_cmp}
use Rattle.df_value.specs.Rows.{cell_at}
use Rattle.df_expr.specs.Value.{is_null}
use Rattle.df_ops.specs.Groups.{keys_of}
use Rattle.df_ops.specs.declared.min_max.MinMax.{MinMax}
use Rattle.df_ops.specs.declared.min_max.MinMax.TheVariants as min_max

-- the cells of the rows at an index
abbrev pub cells_of : Option ℕ → List (List Cell) → List Cell
cells_of index rows = map (cell_at index) rows

-- the cells that are not null
abbrev pub non_null : List Cell → List Cell
non_null cells = filter (λ c. not (is_null c)) cells

-- the number of cells that are not null
abbrev pub count_of : List Cell → ℕ
count_of cells = length (non_null cells)

-- what a cell adds to a sum: an Int its number, a true 1, a false 0
abbrev pub number_of : Cell → Option ℤ
number_of (cell.Int n) = Some n
number_of (cell.Bool true) = Some (pos 1)
number_of (cell.Bool false) = Some (pos 0)
number_of _ = None

-- a sum and a further number, if there is one
abbrev pub sum_with : ℤ → Option ℤ → ℤ
sum_with sum None = sum
sum_with sum (Some n) = sum +ℤ n

-- the sum of the Int cells among these, or the number of trues
abbrev pub sum_of : List Cell → ℤ
sum_of cells = fold (λ sum c. sum_with sum (number_of c)) (pos 0) cells

-- whether a cell lies below another, or above it
abbrev pub is_beyond : MinMax → Cell → Cell → Bool
is_beyond min_max.Min a b = is_lt (cell_cmp a b)
is_beyond min_max.Max a b = is_gt (cell_cmp a b)

-- whether no cell of a list lies beyond this one
abbrev pub is_min_or_max : MinMax → List Cell → Cell → Bool
is_min_or_max e cells c = list_all (λ d. not (is_beyond e d c)) cells

-- the cell among these that none lies beyond
abbrev pub min_or_max_in : MinMax → List Cell → Option Cell
min_or_max_in e cells = find (is_min_or_max e cells) cells

-- of the cells that are not null, the least or the greatest: the one that no other is below, or none above; null
-- where all are null
abbrev pub min_or_max_of : MinMax → List Cell → Cell
min_or_max_of e cells = unwrap_or (min_or_max_in e (non_null cells)) cell.Null

-- the first and the last cell, a null one too
abbrev pub first_cell : List Cell → Cell
first_cell cells = unwrap_or (slice_get cells 0) cell.Null

abbrev pub last_cell : List Cell → Cell
last_cell cells = unwrap_or (slice_get cells (length cells - 1)) cell.Null

-- a sum over a count, null over none; it is never reduced
abbrev pub mean_at : ℤ → ℕ → Cell
mean_at sum zero = cell.Null
mean_at sum (suc n) = cell.Frac (sum, pos (suc n))

-- the mean of the Int cells among these
abbrev pub mean_of : List Cell → Cell
mean_of cells = mean_at (sum_of cells) (count_of cells)

-- the number of distinct cells at an index, null being one: as many as a grouping by that column has keys
abbrev pub n_unique_of : Option ℕ → List (List Cell) → ℕ
n_unique_of index rows = length (keys_of (index ∷ []) rows)

-- the sum of whole numbers
abbrev pub total : List ℤ → ℤ
total ns = fold (λ a b. a +ℤ b) (pos 0) ns

-- what a sum of cells is: one Int has its number, a true 1, a false 0, null 0, and the sum of the whole is that of its parts
pub record IsSum (sum : List Cell → ℤ) : Type 0 where
  pub of_int : (n : ℤ) → sum (cell.Int n ∷ []) ≡ n
  pub of_true : sum (cell.Bool true ∷ []) ≡ pos 1
  pub of_false : sum (cell.Bool false ∷ []) ≡ pos 0
  pub of_null : sum (cell.Null ∷ []) ≡ pos 0
  pub of_parts : (first second : List Cell) → sum (first ++ second) ≡ sum first +ℤ sum second

-- what a count of cells is: null counts 0, any other cell 1, and the count of the whole is that of its parts
pub record IsCount (count : List Cell → ℕ) : Type 0 where
  pub of_null : count (cell.Null ∷ []) ≡ 0
  pub of_other : (c : Cell) → c ≢ cell.Null → count (c ∷ []) ≡ 1
  pub of_parts : (first second : List Cell) → count (first ++ second) ≡ count first + count second
