-- A column of cumulative sums over tagged rows, and what is made of it from a row on.
use Rattle.std.specs.Prelude.{◌≡◌, ℕ, ℤ, ◌+ℤ◌, ◌-ℤ◌, ◌-◌, ◌≤◌, T, List, [], ◌∷◌, Option, Some, None, if◌then◌else◌, drop, length, slice_index_or, take}
use Rattle.std.specs.List.{list_all}
use Rattle.std.specs.FinMap as finite
use Rattle.df_value.specs.Rows.{cell_at}
use Rattle.df_value.specs.declared.cell.Cell.{Cell}
use Rattle.df_value.specs.declared.cell.Cell.TheVariants as cell
use Rattle.df_expr.specs.Value.{is_null}
use Rattle.df_ops.specs.Aggregates.{cells_of, last_cell, sum_of}
use Rattle.df_ops.specs.LoopStates.{cum_sum_after}
use Rattle.df_ops.specs.Windows.{cum_sum_at}
use Rattle.df_ops.specs.declared.places.Place.{Place}
use Rattle.df_column.specs.Bounds.{is_below}
use Rattle.df_column.specs.Tables.{TaggedRows}
use Rattle.df_column.specs.declared.entry.Entry.{Entry}
use Rattle.df_column.specs.declared.tag.Tag.{Tag}
use Rattle.df_nodes.specs.Prefixes.{with_each_prefix}
use Rattle.df_nodes.specs.Rolling.{put_at}
use Rattle.df_nodes.specs.declared.tail_sums.TailSums.{TailSums}

-- the rows with the sums of the cells at an index put among their own
abbrev pub sum_output : List Place → Option ℕ → TaggedRows → TaggedRows
sum_output places index t = with_each_prefix (put_at places) cum_sum_at index t

-- sums that are all too great by a number
abbrev pub shifted_sum : ℤ → List Cell → Cell
shifted_sum by cells = if is_null (last_cell cells) then cell.Null else cell.Wide (sum_of cells +ℤ by)

abbrev pub shifted_output : List Place → Option ℕ → ℤ → TaggedRows → TaggedRows
shifted_output places index by t = with_each_prefix (put_at places) (shifted_sum by) index t

-- the sum of the cells at an index of the first n rows
abbrev pub sum_to : Option ℕ → TaggedRows → ℕ → ℤ
sum_to index t n = sum_of (cells_of index (take n (finite.values t)))

-- by how much the sums are too great: 0 where they begin at what stands before them
abbrev pub shift_of : Option ℕ → TaggedRows → TailSums → ℤ
shift_of index t s = s.before -ℤ sum_to index t s.start

-- the output with the sums that were made
abbrev pub made_output : List Place → Option ℕ → TaggedRows → TailSums → TaggedRows
made_output places index t s = shifted_output places index (shift_of index t s) t

-- copies of the rows of t from some row on, and their sums. All rows before have tags below the first.
pub record AreSums (index : Option ℕ) (t : TaggedRows) (s : TailSums) : Type 0 where
  pub within : s.start ≤ length (finite.entries t)
  pub front : T (list_all (λ r. is_below r.0 s.first) (take s.start (finite.entries t)))
  pub rows_are : s.rows.items ≡ drop s.start (finite.values t)
  pub sums_are : s.sums.items ≡ cum_sum_after s.before (cells_of index (drop s.start (finite.values t)))

-- the row at an index of the input, if there is one, with its sum
abbrev pub summed_row : List Place → TailSums → Option ℕ → Option (List Cell)
summed_row places s None = None
summed_row places s (Some at) = Some (put_at places (slice_index_or s.rows.items (at - s.start) []) (slice_index_or s.sums.items (at - s.start) cell.Null))

-- the output still has the sums of the rows below a tag
pub record HasSumsBefore (places : List Place) (index : Option ℕ) (output t : TaggedRows) (first : Tag) : Type 0 where
  pub at : (q : Tag) → T (is_below q first) → finite.get output q ≡ finite.get (sum_output places index t) q

-- the cell at an index of a row, if there is a row
abbrev pub cell_in : ℕ → Option (List Cell) → Cell
cell_in place None = cell.Null
cell_in place (Some row) = cell_at (Some place) row

-- the tag of the first entry
abbrev pub first_tag : List Entry → Tag
first_tag [] = record { first = 18446744073709551615; second = 18446744073709551615; third = 18446744073709551615 }
first_tag (e ∷ es) = e.tag
