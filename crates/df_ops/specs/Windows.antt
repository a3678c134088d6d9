-- Rolling sums, minima and maxima with `window_size` and `min_samples`, not centred, and cumulative sums, as `rolling_sum`,
-- `rolling_min`, `rolling_max` and `cum_sum` of the Polars Python reference have them: a window has the cells of its row
-- and of those before it, as far as they exist. That sums are kept in 128 bits is this project's own choice.
use Rattle.std.specs.Prelude.{◌≡◌, ◌≤◌, IsTrue, not, Some, slice_get, ℕ, ℤ, pos, negsuc, ◌+◌, ◌-◌, List, length, map, nat_lt, take, drop, if◌then◌else◌}
use Rattle.std.specs.List.{range_with_len}
use Rattle.df_value.specs.declared.cell.Cell.{Cell}
use Rattle.df_value.specs.declared.cell.Cell.TheVariants as cell
use Rattle.df_value.specs.declared.cell.CellType.{CellType}
use Rattle.df_value.specs.declared.cell.CellType.TheVariants as dtype
use Rattle.df_expr.specs.Value.{is_null}
use Rattle.df_ops.specs.Aggregates.{count_of, sum_of, min_or_max_of, last_cell}
use Rattle.df_ops.specs.declared.min_max.MinMax.TheVariants as min_max
use Rattle.df_ops.specs.declared.windows.RollKind.{RollKind}
use Rattle.df_ops.specs.declared.windows.RollKind.TheVariants as roll

-- what f gives of the cells up to each one, that one included
abbrev pub each_prefix : (List Cell → Cell) → List Cell → List Cell
each_prefix f cells = map (λ i. f (take (i + 1) cells)) (range_with_len 0 (length cells))

-- the last w of these cells, or all where there are fewer
abbrev pub window_of : ℕ → List Cell → List Cell
window_of w cells = drop (length cells - w) cells

-- the sum, the least or the greatest of the cells of a window
abbrev pub window_value : RollKind → List Cell → Cell
window_value roll.Sum cells = cell.Wide (sum_of cells)
window_value roll.Min cells = min_or_max_of min_max.Min cells
window_value roll.Max cells = min_or_max_of min_max.Max cells

-- that value where at least m of the cells are not null, else null
abbrev pub rolling_cell : RollKind → ℕ → List Cell → Cell
rolling_cell kind m cells = if nat_lt (count_of cells) m then cell.Null else window_value kind cells

-- a whole number as a size, 0 for one below 0
abbrev pub size_of : ℤ → ℕ
size_of (pos n) = n
size_of (negsuc n) = 0

-- the type of a column of rolling values
abbrev pub rolling_dtype : RollKind → CellType
rolling_dtype roll.Sum = dtype.Wide
rolling_dtype roll.Min = dtype.Int
rolling_dtype roll.Max = dtype.Int

-- the rolling values of a column
abbrev pub rolling_cells : RollKind → ℕ → ℕ → List Cell → List Cell
rolling_cells kind w m cells = each_prefix (λ p. rolling_cell kind m (window_of w p)) cells

-- the sum of the cells up to a row; null where the row's own cell is null
abbrev pub cum_sum_at : List Cell → Cell
cum_sum_at cells = if is_null (last_cell cells) then cell.Null else cell.Wide (sum_of cells)

-- the cumulative sums of a column
abbrev pub cum_sum : List Cell → List Cell
cum_sum cells = each_prefix cum_sum_at cells

-- a rolling sum whose window has room for all these cells and that wants at least one which is not null is their
-- cumulative sum, where that is not null
abbrev pub IsCumSum : RollKind → ℕ → ℕ → List Cell → Cell → Type 0
IsCumSum kind w m cells c =
    kind ≡ roll.Sum → length cells ≤ w → m ≡ 1 → IsTrue (not (is_null (cum_sum_at cells))) → c ≡ cum_sum_at cells

-- each cumulative sum is the sum of the cells up to its own cell, and null where that cell is null
abbrev pub AreSumsUpTo : List Cell → List Cell → Type 0
AreSumsUpTo cells sums =
    (i : ℕ) (c : Cell) → slice_get cells i ≡ Some c →
    (IsTrue (is_null c) → slice_get sums i ≡ Some cell.Null)
    × (IsTrue (not (is_null c)) → slice_get sums i ≡ Some (cell.Wide (sum_of (take (i + 1) cells))))

-- cumulative sums end in the sum, where the last cell is not null
abbrev pub EndsInSum : List Cell → List Cell → Type 0
EndsInSum cells sums = IsTrue (not (is_null (last_cell cells))) → last_cell sums ≡ cell.Wide (sum_of cells)
