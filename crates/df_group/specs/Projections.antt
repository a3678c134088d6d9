-- The columns of an input that a group-by keeps of the members of its groups, and what rows and their changes are to these.
use Rattle.std.specs.Prelude.{◌==◌, ◌||◌, ◌/◌, ℕ, Bool, nat_lt, true, false, not, cond, find, length, filter, map, List, Option, Some, None, option_map, unwrap_or}
use Rattle.std.specs.List.{list_any}
use Rattle.std.specs.Str.{bytes_eq}
use Rattle.df_value.specs.Schemas.{Columns, column_index}
use Rattle.df_value.specs.declared.cell.Cell.{Cell}
use Rattle.df_value.specs.declared.cell.CellType.{CellType}
use Rattle.df_value.specs.declared.cell.CellType.TheVariants as dtype
use Rattle.df_column.specs.Changes.{Change}
use Rattle.df_column.specs.Tables.{TaggedRows, entry_change}
use Rattle.df_column.specs.declared.entry.Entry.{Entry}
use Rattle.df_column.specs.declared.tag.Tag.{Tag}
use Rattle.df_delta.specs.ChangeOf.{row_wise_change}
use Rattle.df_delta.specs.Collected.{collected, collected_list}
use Rattle.df_delta.specs.Deltas.{Changes}
use Rattle.df_delta.specs.SameRows.{same_row}
use Rattle.df_ops.specs.AggregateDtypes.{input_column}
use Rattle.df_ops.specs.Groups.{key_of}
use Rattle.df_ops.specs.declared.agg.Agg.{Agg}

-- whether an aggregate takes the column of this name
abbrev pub takes_column : List ℕ → Agg → Bool
takes_column name a = unwrap_or (option_map (λ column. bytes_eq column name) (input_column a)) false

-- whether one of the aggregates takes it
abbrev pub is_taken : List (List ℕ × Agg) → List ℕ → Bool
is_taken aggregates name = list_any (λ a. takes_column name a.1) aggregates

-- whether a column of this type has texts
abbrev pub is_text : CellType → Bool
is_text dtype.Text = true
is_text _ = false

-- the first column that has no texts, unless an aggregate takes a column
abbrev pub spare_column : Columns → List (List ℕ × Agg) → Option (List ℕ × CellType)
spare_column columns aggregates = cond (list_any (λ c. is_taken aggregates c.0) columns) None (find (λ c. not (is_text c.1)) columns)

-- whether the column, if there is one, has this name
abbrev pub is_name_of : Option (List ℕ × CellType) → List ℕ → Bool
is_name_of None name = false
is_name_of (Some column) name = bytes_eq column.0 name

-- whether the members need the column of this name
abbrev pub is_needed : Columns → List (List ℕ × Agg) → List ℕ → Bool
is_needed columns aggregates name = is_taken aggregates name || is_name_of (spare_column columns aggregates) name

-- the columns that the members need
abbrev pub needed_columns : Columns → List (List ℕ × Agg) → Columns
needed_columns columns aggregates = filter (λ c. is_needed columns aggregates c.0) columns

-- where the first columns stand among the second
abbrev pub indices_among : Columns → Columns → List (Option ℕ)
indices_among some all = map (λ c. column_index c.0 all) some

-- whether members have all columns: where they need more than half of them, or one of texts, or none
abbrev pub are_all_kept : Columns → List (List ℕ × Agg) → Bool
are_all_kept columns aggregates =
    (length (needed_columns columns aggregates) == 0)
    || (nat_lt (length columns / 2) (length (needed_columns columns aggregates))
    || list_any (λ c. is_text c.1) (needed_columns columns aggregates))

-- the columns of the members
abbrev pub member_columns : Columns → List (List ℕ × Agg) → Columns
member_columns columns aggregates = cond (are_all_kept columns aggregates) columns (needed_columns columns aggregates)

-- their indices in the input, unless they are all
abbrev pub member_indices : Columns → List (List ℕ × Agg) → Option (List (Option ℕ))
member_indices columns aggregates = cond (are_all_kept columns aggregates) None (Some (indices_among (needed_columns columns aggregates) columns))

-- the cells of a row that its member has: those at these indices, where not all are kept
abbrev pub member_cells : Option (List (Option ℕ)) → List Cell → List Cell
member_cells None row = row
member_cells (Some indices) row = key_of indices row

-- the cells of a row at these indices, as a row
abbrev pub projected_row : List (Option ℕ) → List Cell → Option (List Cell)
projected_row indices row = Some (key_of indices row)

-- the rows with only the cells that members have
abbrev pub projected_rows : Option (List (Option ℕ)) → TaggedRows → TaggedRows
projected_rows None t = t
projected_rows (Some indices) t = collected (λ _. projected_row indices) t

-- of each change what it is to the cells at these indices, without those that leave these as they were
abbrev pub projected_changes : List (Option ℕ) → List (Tag × Change (List Cell)) → List (Tag × Change (List Cell))
projected_changes indices changes = collected_list (λ _. row_wise_change same_row (projected_row indices)) changes

-- what a delta of rows is to their members
abbrev pub projected_delta : Option (List (Option ℕ)) → Changes → Changes
projected_delta None d = d
projected_delta (Some indices) d = collected (λ _. row_wise_change same_row (projected_row indices)) d

-- the entry of a change
abbrev pub change_entry : Tag × Change (List Cell) → Entry
change_entry c = record { tag = c.0; old = c.1.old; new = c.1.new }

-- what entries of rows are to their members
abbrev pub projected_entries : Option (List (Option ℕ)) → List Entry → List Entry
projected_entries None entries = entries
projected_entries (Some indices) entries = map change_entry (projected_changes indices (map entry_change entries))
