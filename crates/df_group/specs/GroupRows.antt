-- The row of a group over the rows of a table, and the output of a group-by with its rows by tag.
use Rattle.std.specs.Prelude.{ℕ, List, ◌++◌, map, Option}
use Rattle.df_value.specs.declared.cell.Cell.{Cell}
use Rattle.df_value.specs.declared.cell.CellType.{CellType}
use Rattle.df_value.specs.Rows.{row_eq}
use Rattle.df_column.specs.Tables.{TaggedRows}
use Rattle.df_delta.specs.Keyed.{members}
use Rattle.df_ops.specs.Groups.{key_of}
use Rattle.df_ops.specs.Tables.{aggregate_cell}
use Rattle.df_ops.specs.declared.agg.Agg.{Agg}
use Rattle.df_group.specs.Grouped.{grouped}

-- the key, and after it the aggregates of these rows
abbrev pub finished_row : List (List ℕ × CellType) → List (List ℕ × Agg) → List Cell → List (List Cell) → List Cell
finished_row columns aggregates key rows = key ++ map (λ a. aggregate_cell columns rows a.1) aggregates

-- the rows that have this key
abbrev pub members_of : List (Option ℕ) → List Cell → TaggedRows → TaggedRows
members_of indices k t = members (key_of indices) row_eq k t

-- one row for each key, at the tag of the key's first row
abbrev pub group_output : List (List ℕ × CellType) → List (Option ℕ) → List (List ℕ × Agg) → TaggedRows → TaggedRows
group_output columns indices aggregates t = grouped (key_of indices) row_eq (finished_row columns aggregates) t
