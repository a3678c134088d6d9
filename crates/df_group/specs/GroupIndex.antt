-- What the index of groups holds of an input, and what a change stages for it.
use Rattle.std.specs.Prelude.{◌≡◌, ◌==◌, ℕ, slice_get, true, cond, List, [], ◌∷◌, map, Option, Some, None, is_some}
use Rattle.std.specs.Option.{IfSome}
use Rattle.std.specs.FinMap as finite
use Rattle.indexmap.specs.IndexMap.{IndexMap, get}
use Rattle.df_value.specs.declared.cell.Cell.{Cell}
use Rattle.df_value.specs.Rows.{row_eq}
use Rattle.df_column.specs.Tables.{TableParts, TaggedRows, after_entries, new_rows_fit}
use Rattle.df_column.specs.declared.entry.Entry.{Entry}
use Rattle.df_column.specs.declared.tag.Tag.{Tag}
use Rattle.df_delta.specs.declared.keyed.KeyChanges.{KeyChanges}
use Rattle.df_ops.specs.Groups.{key_of}
use Rattle.df_group.specs.Grouped.{grouped, groups_at}
use Rattle.df_group.specs.GroupRows.{finished_row, members_of}
use Rattle.df_group.specs.Projections.{member_cells, projected_entries, projected_rows}
use Rattle.df_group.specs.Totals.{Lead, total_for}
use Rattle.df_group.specs.declared.group.Group.{Group}
use Rattle.df_group.specs.declared.grouping.Grouping.{Grouping}
use Rattle.df_group.specs.declared.total.Total.{Total}

-- the finished row of these members of a key
abbrev pub row_of_group : Grouping → List Cell → List (List Cell) → List Cell
row_of_group g key members = finished_row g.members.schema g.aggregates key members

-- and of the rows of the input that have the key
abbrev pub row_of_rows : Grouping → List Cell → List (List Cell) → List Cell
row_of_rows g key rows = row_of_group g key (map (member_cells g.members.indices) rows)

-- the output over an input
abbrev pub output_of : Grouping → TaggedRows → TaggedRows
output_of g t = grouped (key_of g.key_indices) row_eq (row_of_rows g) t

-- what the groups of these keys have at a tag
abbrev pub output_at : Grouping → List (List Cell) → TaggedRows → Tag → Option (List Cell)
output_at g ks t q = groups_at (key_of g.key_indices) row_eq (row_of_rows g) ks t q

-- each tag of the rows u is a tag of the rows t
abbrev pub HasTagsOf : TaggedRows → TaggedRows → Type 0
HasTagsOf t u = (q : Tag) → IfSome (finite.get u q) (λ _. is_some (finite.get t q) ≡ true)

-- the total of these rows for each aggregate
abbrev pub totals_of : Grouping → List (List Cell) → List Total
totals_of g rows = map (λ a. total_for g.members.schema a.1 rows) g.aggregates

-- the group of these members
abbrev pub group_with : Grouping → List Cell → TableParts → Group
group_with g k members = record {
  members = members;
  totals = totals_of g (finite.values members.rows);
  row = row_of_group g k (finite.values members.rows);
}

-- the members of a key in an input
abbrev pub members_in : Grouping → List Cell → TaggedRows → TaggedRows
members_in g k t = projected_rows g.members.indices (members_of g.key_indices k t)

-- the group of a key in an input
abbrev pub group_in : Grouping → List Cell → TaggedRows → Group
group_in g k t = group_with g k (record { schema = g.members.schema; rows = members_in g k t })

-- the group, unless it has no member
abbrev pub non_empty : Group → Option Group
non_empty group = cond (finite.len group.members.rows == 0) None (Some group)

-- the members of a group, none where there is no group
abbrev pub members_now : Grouping → Option Group → TableParts
members_now g None = record { schema = g.members.schema; rows = finite.empty }
members_now g (Some group) = group.members

-- the totals of a group, those of no rows where there is no group
abbrev pub totals_now : Grouping → Option Group → List Total
totals_now g None = totals_of g []
totals_now g (Some group) = group.totals

-- the table after the changes of these entries, if their new rows fit its schema
abbrev pub edited_table : TableParts → List Entry → TableParts
edited_table t entries = cond (new_rows_fit t.schema entries) (after_entries t entries) t

-- the group of a key after these changes of its members
abbrev pub changed_group : Grouping → List Cell → Option Group → List Entry → Group
changed_group g k now entries = group_with g k (edited_table (members_now g now) entries)

-- the cell at an index of a row, if both are there
abbrev pub cell_at_if : Option (List Cell) → ℕ → Option Cell
cell_at_if None at = None
cell_at_if (Some row) at = slice_get row at

-- the row that a key's group has of some members, from which the entries lead to the new ones
pub record IsRowBefore (g : Grouping) (key row : List Cell) (entries : List Entry) (new : List (List Cell)) : Type 0 where
  pub old : List (List Cell)
  pub is : row ≡ row_of_group g key old
  pub lead : Lead old entries new

-- the row and the totals of the key's group are those of its members, and the changes lead them to those of its members
-- afterwards
pub record Follows (g : Grouping) (key : List Cell) (now : Option Group) (entries : List Entry) : Type 0 where
  pub row : IfSome now (λ group. group.row ≡ row_of_group g key (finite.values group.members.rows))
  pub own : totals_now g now ≡ totals_of g (finite.values (members_now g now).rows)
  pub lead : Lead (finite.values (members_now g now).rows) entries (finite.values (edited_table (members_now g now) entries).rows)

-- what changes of the rows of a key are to its members
abbrev pub member_entries : Grouping → KeyChanges → List Entry
member_entries g changes = projected_entries g.members.indices changes.entries.items

-- what is staged for a key after these changes of its members: what was staged before, where there are none
abbrev pub staged_after : Grouping → List Cell → Option Group → List Entry → Option Group → Option Group
staged_after g k now [] staged = staged
staged_after g k now (e ∷ es) staged = Some (changed_group g k now (e ∷ es))

-- the same after these changes of its rows, if there are any
abbrev pub staged_with : Grouping → List Cell → Option Group → Option KeyChanges → Option Group → Option Group
staged_with g k now None staged = staged
staged_with g k now (Some changes) staged = staged_after g k now (member_entries g changes) staged

-- the group of a key as it will be: as staged, else as it is
abbrev pub staged_or : Option Group → Option Group → Option Group
staged_or None now = now
staged_or (Some group) now = non_empty group

-- a row at the tag of the first of these entries
abbrev pub first_entry : List Cell → List (Tag × List Cell) → Option (Tag × List Cell)
first_entry row [] = None
first_entry row (e ∷ es) = Some (e.0, row)

-- what a group gives to the output
abbrev pub entry_of : Option Group → Option (Tag × List Cell)
entry_of None = None
entry_of (Some group) = first_entry group.row (finite.entries group.members.rows)

module _ {S : Type 0} where
  -- the index has the group of each key that has one
  pub record IsIndexOf (g : Grouping) (index : IndexMap (List Cell) Group S) (t : TaggedRows) : Type 0 where
    pub at : (k : List Cell) → get row_eq index k ≡ non_empty (group_in g k t)

  -- the group of a key as it will be
  abbrev pub state_of : IndexMap (List Cell) Group S → IndexMap (List Cell) Group S → List Cell → Option Group
  state_of index staged k = staged_or (get row_eq staged k) (get row_eq index k)

  -- what is staged leads to the input t
  pub record LeadsTo (g : Grouping) (index staged : IndexMap (List Cell) Group S) (t : TaggedRows) : Type 0 where
    pub at : (k : List Cell) → state_of index staged k ≡ non_empty (group_in g k t)
