-- The rows of one side of a join by their keys, as they are and as they are staged.
use Rattle.std.specs.Prelude.{◌≡◌, ℕ, ◌==◌, cond, List, Option, Some, None}
use Rattle.std.specs.FinMap as finite
use Rattle.indexmap.specs.IndexMap.{IndexMap, get}
use Rattle.df_value.specs.Rows.{row_eq}
use Rattle.df_value.specs.declared.cell.CellType.{CellType}
use Rattle.df_column.specs.Tables.{TableParts, TaggedRows}
use Rattle.df_delta.specs.Collected.{kept}
use Rattle.df_ops.specs.Groups.{key_of}
use Rattle.df_join.specs.Rules.{Cells}
use Rattle.df_join.specs.declared.members.Members.{Members}
use Rattle.df_join.specs.declared.keyed.KeyedTables.{KeyedTables}

-- the rows of the key
abbrev pub group_of : List (Option ℕ) → Cells → TaggedRows → TaggedRows
group_of indices k t = kept (λ x. row_eq (key_of indices x) k) t

-- the table of these rows, or none where there is no row
abbrev pub table_or_none : List (List ℕ × CellType) → TaggedRows → Option TableParts
table_or_none schema rows = cond (finite.len rows == 0) None (Some (record { schema = schema; rows = rows }))

-- the table, unless it has no row
abbrev pub unless_empty : TableParts → Option TableParts
unless_empty m = cond (finite.len m.rows == 0) None (Some m)

-- the rows of the table, if there is one
abbrev pub rows_or_empty : Option TableParts → TaggedRows
rows_or_empty None = finite.empty
rows_or_empty (Some m) = m.rows

abbrev pub table_or : TableParts → Option TableParts → TableParts
table_or empty None = empty
table_or empty (Some m) = m

-- the table of a key as it will be: as staged, else as it is
abbrev pub staged_or : Option TableParts → Option TableParts → Option TableParts
staged_or None now = now
staged_or (Some m) now = unless_empty m

module _ {S : Type 0} where
  abbrev pub state_of : IndexMap Cells TableParts S → IndexMap Cells TableParts S → Cells → Option TableParts
  state_of tables staged k = staged_or (get row_eq staged k) (get row_eq tables k)

-- the members have the rows of each key that has one
pub record IsIndexOf (indices : List (Option ℕ)) (members : Members) (t : TaggedRows) : Type 0 where
  pub empty : members.empty.rows ≡ finite.empty
  pub at : (k : Cells) → get row_eq members.keyed.tables k ≡ table_or_none members.empty.schema (group_of indices k t)

-- what is staged leads to the rows t
pub record LeadsTo (indices : List (Option ℕ)) (members : Members) (staged : KeyedTables) (t : TaggedRows) : Type 0 where
  pub empty : members.empty.rows ≡ finite.empty
  pub at : (k : Cells) → state_of members.keyed.tables staged.tables k ≡ table_or_none members.empty.schema (group_of indices k t)

-- the table of a key as it will be, or the empty one, is of the schema and has these rows
pub record IsGroup (members : Members) (staged : KeyedTables) (k : Cells) (rows : TaggedRows) : Type 0 where
  pub at : table_or members.empty (state_of members.keyed.tables staged.tables k) ≡ record { schema = members.empty.schema; rows = rows }
