-- Notes of a join, made for one row after another of either side.
use Rattle.std.specs.Prelude.{◌≡◌, ℕ, Bool, cond, not, ◌==◌, List, [], ◌∷◌, ◌++◌, length, map, Option, Some, None, T}
use Rattle.std.specs.List.{flat_map, list_all}
use Rattle.std.specs.FinMap as finite
use Rattle.df_value.specs.Rows.{row_eq}
use Rattle.df_value.specs.declared.cell.CellType.{CellType}
use Rattle.df_column.specs.Changes.{Change, set_at, applied_list}
use Rattle.df_column.specs.Tables.{TaggedRows, new_row_fits}
use Rattle.df_column.specs.declared.tag.Tag.{Tag}
use Rattle.df_delta.specs.Collected.{kept}
use Rattle.df_delta.specs.Deltas.{Changes}
use Rattle.df_delta.specs.Notes.{IsNote, moved}
use Rattle.df_ops.specs.Groups.{key_of}
use Rattle.df_join.specs.Joined.{matches, joined}
use Rattle.df_join.specs.Keyed.{LeadsTo}
use Rattle.df_join.specs.Rules.{Cells, by_key, joined_row, key_or_null}
use Rattle.df_join.specs.Spread.{IsLeftTag, IsRightTag, HasKeys, no_tag, combine}
use Rattle.df_join.specs.declared.keyed.KeyedTables.{KeyedTables}
use Rattle.df_join.specs.declared.members.Members.{Members}
use Rattle.df_join.specs.declared.rule.JoinRule.{JoinRule}

-- a change at a tag
abbrev pub Note : Type 0
Note = Tag × Change Cells

-- each old row stands where it is to stand, one change after another
abbrev pub FitsList : TaggedRows → List Note → Type 0
FitsList t [] = Unit {0}
FitsList t (e ∷ es) = (finite.get t e.0 ≡ e.1.old) × FitsList (set_at t e.0 e.1.new) es

-- the new rows of these changes fit the schema
abbrev pub NewFit : List (List ℕ × CellType) → List Note → Type 0
NewFit schema es = T (list_all (λ e. new_row_fits schema e.1.new) es)

-- the notes lead from a table to another
pub record Leads (notes : Changes) (from to : TaggedRows) : Type 0 where
  pub at : (q : Tag) → IsNote (finite.get notes q) (finite.get from q) (finite.get to q)

-- the later notes are the earlier ones and these behind them
pub record Noted (old new : Changes) (ns : List Note) : Type 0 where
  pub after : (from to : TaggedRows) → Leads old from to → FitsList to ns → Leads new from (applied_list to ns)

-- the row that stands before, and after, where one goes or else comes
abbrev pub row_before : Bool → Cells → Option Cells
row_before goes x = cond goes (Some x) None

abbrev pub row_after : Bool → Cells → Option Cells
row_after goes x = cond goes None (Some x)

-- the row goes from the tag or comes to it, under its key, and fits
pub record CanMove (schema : List (List ℕ × CellType)) (indices : List (Option ℕ)) (goes : Bool) (tag : Tag) (row key : Cells) (t : TaggedRows) : Type 0 where
  pub key_is : key ≡ key_of indices row
  pub stood : finite.get t tag ≡ row_before goes row
  pub fits : T (new_row_fits schema (row_after goes row))

-- the table without that row
abbrev pub without : Bool → TaggedRows → Tag → TaggedRows
without goes t tag = cond goes (set_at t tag None) t

-- the rows of a key that is not null
abbrev pub keyed_rows : JoinRule → List (Option ℕ) → Cells → TaggedRows → TaggedRows
keyed_rows rule indices k t = kept (λ y. matches row_eq (key_or_null rule k) (key_or_null rule (key_of indices y))) t

-- the join of the rows by their keys
abbrev pub joined_by_key : Bool → JoinRule → TaggedRows → TaggedRows → TaggedRows
joined_by_key one rule l r = joined (by_key rule) one l r

-- the pair of a left row with one right row, in the place of that with another
abbrev pub replaced_pair : JoinRule → Cells → Cells → Cells → Change Cells
replaced_pair rule x y z = record { old = Some (joined_row rule x (Some y)); new = Some (joined_row rule x (Some z)) }

module _ (rule : JoinRule) (one : Bool) where
  -- the pairs of a left row that goes or comes
  abbrev pub pair_notes : Bool → Tag → Cells → List (Tag × Cells) → List Note
  pair_notes goes p x fs = map (λ f. (combine one p f.0, moved goes (joined_row rule x (Some f.1)))) fs

  -- a left row that goes or comes alone
  abbrev pub lone_notes : Bool → Bool → Tag → Cells → List Note
  lone_notes keeps goes p x = cond keeps ((combine one p no_tag, moved goes (joined_row rule x None)) ∷ []) []

  -- all that a left row gives which goes or comes beside these right rows
  abbrev pub left_list : Bool → Bool → Tag → Cells → List (Tag × Cells) → List Note
  left_list keeps goes p x fs = cond (length fs == 0) (lone_notes keeps goes p x) (pair_notes goes p x fs)

  -- the pairs of a right row that goes or comes beside these left rows: where it is the only one of its key, the left rows alone come or go
  abbrev pub right_list : Bool → Bool → Tag → Cells → List (Tag × Cells) → List Note
  right_list lone goes s y es =
      flat_map (λ e. lone_notes lone (not goes) e.0 e.1 ++ (combine one e.0 s, moved goes (joined_row rule e.1 (Some y))) ∷ []) es

  -- the pairs of a right row that takes the place of another of its key, beside these left rows
  abbrev pub replaced_list : Tag → Cells → Cells → List (Tag × Cells) → List Note
  replaced_list s y z es = map (λ e. (combine one e.0 s, replaced_pair rule e.1 y z)) es

-- the tables of both sides, and the members of the right one as they are staged
pub record AreSides (one : Bool) (rule : JoinRule) (right : Members) (staged : KeyedTables) (l r : TaggedRows) : Type 0 where
  pub left_keys : HasKeys (IsLeftTag one) l
  pub right_keys : HasKeys (IsRightTag one) r
  pub over : LeadsTo rule.indices.right right staged r
