-- Both sides of a live join.
use Rattle.std.specs.Prelude.{◌≡◌, ℕ, ◌≤◌, ◌+◌, Bool, nat_eq}
use Rattle.indexmap.specs.IndexMap.{spare, index_map_len, IsUnchanged}
use Rattle.df_column.specs.Tables.{TaggedRows}
use Rattle.df_column.specs.declared.tag.Tag.{Tag}
use Rattle.df_delta.specs.Deltas.{Changes, RowsFit}
use Rattle.df_join.specs.Keyed.{IsIndexOf, LeadsTo}
use Rattle.df_join.specs.RowNotes.{Leads, joined_by_key}
use Rattle.df_join.specs.Spread.{IsLeftTag, IsRightTag, IsTagOver, HasKeys}
use Rattle.df_join.specs.declared.join.LiveJoin.{LiveJoin}
use Rattle.df_join.specs.declared.join.StagedJoin.{StagedJoin}
use Rattle.df_join.specs.declared.keyed.KeyedTables.{KeyedTables}

-- whether the left side has one scan
abbrev pub is_one : ℕ → Bool
is_one scans = nat_eq scans 1

-- a right row's tag, which is no left row's alone
pub record IsRowTag (one : Bool) (s : Tag) : Type 0 where
  pub part : IsRightTag one s
  pub begins : 1 ≤ s.first

-- so many scans stand on each side
pub record AreScans (a b : ℕ) : Type 0 where
  pub left : 1 ≤ a
  pub right : 1 ≤ b
  pub both : a + b ≤ 3

-- the join of these inputs
abbrev pub join_output : LiveJoin → TaggedRows → TaggedRows → TaggedRows
join_output j l r = joined_by_key (is_one j.left_scans) j.rule l r

-- the rows fit the schemas of their sides, and their tags have a number for each scan
pub record AreInputs (j : LiveJoin) (l r : TaggedRows) : Type 0 where
  pub left_fits : RowsFit j.left.empty.schema l
  pub right_fits : RowsFit j.right.empty.schema r
  pub left_tags : HasKeys (IsTagOver j.left_scans) l
  pub right_tags : HasKeys (IsTagOver j.right_scans) r

-- the members of both sides are those of these inputs
pub record IsOver (j : LiveJoin) (l r : TaggedRows) : Type 0 where
  pub scans : AreScans j.left_scans j.right_scans
  pub left : IsIndexOf j.rule.indices.left j.left l
  pub right : IsIndexOf j.rule.indices.right j.right r

-- a commit of what is staged leads to these inputs
pub record LeadsToBoth (j : LiveJoin) (staged : StagedJoin) (l r : TaggedRows) : Type 0 where
  pub scans : AreScans j.left_scans j.right_scans
  pub left : LeadsTo j.rule.indices.left j.left staged.left l
  pub right : LeadsTo j.rule.indices.right j.right staged.right r

-- a commit of what is staged takes no memory
pub record HasRoomFor (j : LiveJoin) (staged : StagedJoin) : Type 0 where
  pub left : index_map_len staged.left.tables ≤ spare j.left.keyed.tables
  pub right : index_map_len staged.right.tables ≤ spare j.right.keyed.tables

-- so far, what is staged of the right side leads to r beside the left side l, and what is noted leads to their join
pub record LeadsOver (j : LiveJoin) (staged : KeyedTables) (notes : Changes) (from l r : TaggedRows) : Type 0 where
  pub left_keys : HasKeys (IsLeftTag (is_one j.left_scans)) l
  pub right_keys : HasKeys (IsRowTag (is_one j.left_scans)) r
  pub left : IsIndexOf j.rule.indices.left j.left l
  pub right : LeadsTo j.rule.indices.right j.right staged r
  pub leads : Leads notes from (join_output j l r)

-- all but the room is as it was
pub record IsAsBefore (old new : LiveJoin) : Type 0 where
  pub rule : new.rule ≡ old.rule
  pub left_scans : new.left_scans ≡ old.left_scans
  pub right_scans : new.right_scans ≡ old.right_scans
  pub left_empty : new.left.empty ≡ old.left.empty
  pub right_empty : new.right.empty ≡ old.right.empty
  pub left : IsUnchanged old.left.keyed.tables new.left.keyed.tables
  pub right : IsUnchanged old.right.keyed.tables new.right.keyed.tables

-- the same tables are staged
pub record IsStagedAsBefore (old new : StagedJoin) : Type 0 where
  pub left : IsUnchanged old.left.tables new.left.tables
  pub right : IsUnchanged old.right.tables new.right.tables
