-- By how much changes of rows raise the number of rows that have a value, modulo 2^64.
use Rattle.std.specs.Prelude.{◌≡◌, ℕ, ◌+◌, ◌%◌, ◌^◌, Bool, false, List, Option, Some, None, unwrap_or}
use Rattle.std.specs.List.{count_by}
use Rattle.std.specs.BTreeMap.{BTreeMap, get}
use Rattle.df_value.specs.CellEq.{cell_eq}
use Rattle.df_value.specs.CellOrder.{cell_cmp}
use Rattle.df_value.specs.Rows.{cell_at}
use Rattle.df_value.specs.declared.cell.Cell.{Cell}
use Rattle.df_column.specs.declared.entry.Entry.{Entry}
use Rattle.df_counts.specs.Counts.{value_in}

-- whether this is the value, if there is one
abbrev pub is_value : Cell → Option Cell → Bool
is_value v None = false
is_value v (Some c) = cell_eq c v

-- whether there is a row, and it has this value at an index
abbrev pub has_value : Option ℕ → Cell → Option (List Cell) → Bool
has_value index v None = false
has_value index v (Some row) = is_value v (value_in (cell_at index row))

-- how many rows with the value go, and how many come
abbrev pub gone : Option ℕ → Cell → List Entry → ℕ
gone index v entries = count_by (λ e. has_value index v e.old) entries

abbrev pub come : Option ℕ → Cell → List Entry → ℕ
come index v entries = count_by (λ e. has_value index v e.new) entries

-- the rise of a value, 0 where there is none
abbrev pub rise_of : BTreeMap Cell ℕ → Cell → ℕ
rise_of rises v = unwrap_or (get cell_cmp rises v) 0

-- the rises are those of the values of the entries' rows
pub record AreRises (rises : BTreeMap Cell ℕ) (index : Option ℕ) (entries : List Entry) : Type 0 where
  pub at : (v : Cell) → (rise_of rises v + gone index v entries) % 2 ^ 64 ≡ come index v entries % 2 ^ 64
