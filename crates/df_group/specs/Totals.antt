-- Running totals: the count and the sum of the cells that rows have at an index, and the number of rows that have each
-- value there; the least and the greatest cell; and how all of these follow changes of the rows.
use Rattle.std.specs.Prelude.{◌≡◌, ℕ, Bool, true, false, cond, not, ◌&&◌, pos, ◌+◌, ◌-◌, ◌+ℤ◌, ◌-ℤ◌, List, [], ◌∷◌, Option, Some, None, IfSome, All, fold, map, unwrap_or}
use Rattle.std.specs.FinMap.{find}
use Rattle.df_value.specs.CellOrder.{cell_cmp}
use Rattle.df_value.specs.Rows.{cell_at}
use Rattle.df_value.specs.declared.cell.Cell.{Cell}
use Rattle.df_value.specs.declared.cell.CellType.{CellType}
use Rattle.df_value.specs.Schemas.{column_index}
use Rattle.df_column.specs.Changes.{edit}
use Rattle.df_column.specs.declared.entry.Entry.{Entry}
use Rattle.df_counts.specs.Counts.{some_count, value_in}
use Rattle.df_ops.specs.Aggregates.{cells_of, count_of, is_beyond, min_or_max_in, min_or_max_of, non_null, sum_of}
use Rattle.df_ops.specs.Tables.{aggregate_cell}
use Rattle.df_ops.specs.LoopStates.{min_or_max_with}
use Rattle.df_ops.specs.declared.min_max.MinMax.{MinMax}
use Rattle.df_ops.specs.declared.agg.Agg.{Agg}
use Rattle.df_ops.specs.declared.agg.Agg.TheVariants as agg
use Rattle.df_group.specs.declared.sums.Sums.{Sums}
use Rattle.df_group.specs.declared.total.Total.{Total}
use Rattle.df_group.specs.declared.values.Values.{Values}

-- the count and the sum of the cells of these rows at an index
abbrev pub sums_of : Option ℕ → List (List Cell) → Sums
sums_of index rows = record { index = index; count = pos (count_of (cells_of index rows)); sum = sum_of (cells_of index rows) }

-- the row alone, or none
abbrev pub alone : Option (List Cell) → List (List Cell)
alone None = []
alone (Some row) = row ∷ []

-- the sums after an entry: without the row that goes, and with the row that comes
abbrev pub sums_after_entry : Sums → Entry → Sums
sums_after_entry s e = record {
  index = s.index;
  count = (s.count -ℤ (sums_of s.index (alone e.old)).count) +ℤ (sums_of s.index (alone e.new)).count;
  sum = (s.sum -ℤ (sums_of s.index (alone e.old)).sum) +ℤ (sums_of s.index (alone e.new)).sum;
}

-- the sums after each of these entries in turn
abbrev pub sums_after : Sums → List Entry → Sums
sums_after s entries = fold sums_after_entry s entries

-- how many rows have the value by these counts
abbrev pub count_in : List (Cell × ℕ) → Cell → ℕ
count_in counts v = unwrap_or (find cell_cmp v counts) 0

-- the counts with one row more of the value, if there is one
abbrev pub with_row : List (Cell × ℕ) → Option Cell → List (Cell × ℕ)
with_row counts None = counts
with_row counts (Some v) = edit cell_cmp counts v (some_count (count_in counts v + 1))

-- and with one row less; a value without rows goes
abbrev pub without_row : List (Cell × ℕ) → Option Cell → List (Cell × ℕ)
without_row counts None = counts
without_row counts (Some v) = edit cell_cmp counts v (some_count (count_in counts v - 1))

-- the value of the row at an index, none where there is no row or its cell is null
abbrev pub value_of : Option ℕ → Option (List Cell) → Option Cell
value_of index None = None
value_of index (Some row) = value_in (cell_at index row)

-- the counts of these rows by their values at an index
abbrev pub counts_of : Option ℕ → List (List Cell) → List (Cell × ℕ)
counts_of index rows = fold (λ counts row. with_row counts (value_in (cell_at index row))) [] rows

-- the counts after an entry
abbrev pub counts_after_entry : Option ℕ → List (Cell × ℕ) → Entry → List (Cell × ℕ)
counts_after_entry index counts e = with_row (without_row counts (value_of index e.old)) (value_of index e.new)

-- the counts after each of these entries in turn
abbrev pub counts_after : Option ℕ → List (Cell × ℕ) → List Entry → List (Cell × ℕ)
counts_after index counts entries = fold (counts_after_entry index) counts entries

-- an index with the counts of these rows
abbrev pub values_of : Option ℕ → List (List Cell) → Values
values_of index rows = record { index = index; counts = counts_of index rows }

-- what a total has of these rows at the index whose cells it sums, and at that whose values it counts
abbrev pub total_of : Option ℕ → Option ℕ → List (List Cell) → Total
total_of summed valued rows = record { sums = sums_of summed rows; values = values_of valued rows }

-- the least or the greatest cell of these rows at an index that is not null
abbrev pub extreme_of_rows : MinMax → Option ℕ → List (List Cell) → Option Cell
extreme_of_rows e index rows = min_or_max_in e (non_null (cells_of index rows))

-- whether the cell of a row that goes may be the best one
abbrev pub may_be_best : MinMax → Option Cell → Option Cell → Bool
may_be_best e best None = false
may_be_best e None (Some gone) = true
may_be_best e (Some best) (Some gone) = not (is_beyond e best gone)

-- whether the cell of a row that comes is as good as the best one, or better
abbrev pub is_as_good : MinMax → Option Cell → Option Cell → Bool
is_as_good e best None = false
is_as_good e None (Some come) = true
is_as_good e (Some best) (Some come) = not (is_beyond e best come)

-- the best cell after an entry, from the one before; not known where the one that goes may be the best, and the one that
-- comes is not as good
abbrev pub extreme_after_entry : MinMax → Option ℕ → Option (Option Cell) → Entry → Option (Option Cell)
extreme_after_entry e index None entry = None
extreme_after_entry e index (Some best) entry = cond (may_be_best e best (value_of index entry.old) && not (is_as_good e best (value_of index entry.new))) None (Some (min_or_max_with e best (value_of index entry.new)))

-- the best cell after each of these entries in turn
abbrev pub extreme_after : MinMax → Option ℕ → Option Cell → List Entry → Option (Option Cell)
extreme_after e index best entries = fold (extreme_after_entry e index) (Some best) entries

-- the entries lead the totals of some rows to those of others, and their least and greatest cells where they are known afterwards
pub record Lead (old : List (List Cell)) (entries : List Entry) (new : List (List Cell)) : Type 0 where
  pub extremes : (e : MinMax) (index : Option ℕ) → IfSome (extreme_after e index (extreme_of_rows e index old) entries) (λ best. best ≡ extreme_of_rows e index new)
  pub sums : (index : Option ℕ) → sums_after (sums_of index old) entries ≡ sums_of index new
  pub counts : (index : Option ℕ) → counts_after index (counts_of index old) entries ≡ counts_of index new

-- each of these totals has the counts of these rows at the index whose values it counts
pub record HaveValuesOf (totals : List Total) (rows : List (List Cell)) : Type 0 where
  pub each : All (λ t. t.values ≡ values_of t.values.index rows) totals

-- these totals, each of its own indices, over other rows
abbrev pub totals_over : List Total → List (List Cell) → List Total
totals_over totals rows = map (λ t. total_of t.sums.index t.values.index rows) totals

-- the index whose cells an aggregate counts or sums; none for those that need neither
abbrev pub summed_index : List (List ℕ × CellType) → Agg → Option ℕ
summed_index columns (agg.Count name) = column_index name columns
summed_index columns (agg.Sum name) = column_index name columns
summed_index columns (agg.Mean name) = column_index name columns
summed_index columns (agg.NUnique name) = column_index name columns
summed_index columns _ = None

-- the index whose values an aggregate counts; none for those that count none, so that no value is kept for them
abbrev pub valued_index : List (List ℕ × CellType) → Agg → Option ℕ
valued_index columns (agg.NUnique name) = column_index name columns
valued_index columns _ = None

-- the total of these rows for an aggregate
abbrev pub total_for : List (List ℕ × CellType) → Agg → List (List Cell) → Total
total_for columns a rows = total_of (summed_index columns a) (valued_index columns a) rows

-- a cell that is the least or the greatest of some rows at an index, null where all are null; the entries lead these rows
-- to others
pub record IsExtremeBefore (e : MinMax) (index : Option ℕ) (known : Cell) (entries : List Entry) (new : List (List Cell)) : Type 0 where
  pub old : List (List Cell)
  pub is : known ≡ min_or_max_of e (cells_of index old)
  pub lead : Lead old entries new

-- a cell that is this aggregate of some rows, which the entries lead to others
pub record IsCellBefore (columns : List (List ℕ × CellType)) (a : Agg) (known : Cell) (entries : List Entry) (new : List (List Cell)) : Type 0 where
  pub old : List (List Cell)
  pub is : known ≡ aggregate_cell columns old a
  pub lead : Lead old entries new
