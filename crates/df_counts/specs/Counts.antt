-- Counts: how many rows have each value of a column, by rising value. Null is no value.
use Rattle.std.specs.Prelude.{◌≡◌, ℕ, zero, suc, ◌+◌, ◌%◌, ◌^◌, List, Option, Some, None, unwrap_or, if◌then◌else◌}
use Rattle.std.specs.FinMap.{find}
use Rattle.df_value.specs.CellOrder.{cell_cmp}
use Rattle.df_value.specs.declared.cell.Cell.{Cell}
use Rattle.df_column.specs.Changes.{Change}
use Rattle.df_expr.specs.Value.{is_null}
use Rattle.df_ops.specs.Ranks.{count_equal}

-- the value of a cell, none where it is null
abbrev pub value_in : Cell → Option Cell
value_in c = if is_null c then None else Some c

-- how many rows have this value at an index
abbrev pub value_count : Option ℕ → List (List Cell) → Cell → ℕ
value_count index rows v = if is_null v then 0 else count_equal index rows v

-- a count, or none for 0
abbrev pub some_count : ℕ → Option ℕ
some_count zero = None
some_count (suc n) = Some (suc n)

-- the counts have each value that stands in some row, with the number of its rows
pub record AreCounts (counts : List (Cell × ℕ)) (index : Option ℕ) (rows : List (List Cell)) : Type 0 where
  pub at : (v : Cell) → find cell_cmp v counts ≡ some_count (value_count index rows v)

-- the count of a value after its rise
abbrev pub raised_count : List (Cell × ℕ) → Cell × ℕ → ℕ
raised_count counts r = (unwrap_or (find cell_cmp r.0 counts) 0 + r.1) % 2 ^ 64

-- the change of the counts that a rise makes
abbrev pub count_change : List (Cell × ℕ) → Cell × ℕ → Cell × Change ℕ
count_change counts r = (r.0, record { old = find cell_cmp r.0 counts; new = some_count (raised_count counts r) })
