-- How the rows of a frame stand in a table: the row of number n at the tag (n + 1, 0, 0).
use Rattle.std.specs.Prelude.{◌≡◌, ℕ, ◌+◌, ◌-◌, List, [], ◌∷◌, length, map, Option, IsTrue}
use Rattle.std.specs.FinMap as finite
use Rattle.std.specs.BTreeMap.{BTreeMap, IsOrdered, get}
use Rattle.df_value.specs.declared.cell.Cell.{Cell}
use Rattle.df_value.specs.Limits as limits
use Rattle.df_column.specs.Changes.{Change, set_at}
use Rattle.df_column.specs.Tables.{TableParts, TaggedRows}
use Rattle.df_column.specs.Tags.{tag_cmp}
use Rattle.df_column.specs.declared.tag.Tag.{Tag}
use Rattle.df_delta.specs.Deltas.{coming}
use Rattle.df_frame.specs.declared.state.FrameState.{FrameState}
use Rattle.df_frame.specs.FrameParts.{FrameParts, deleted_numbers}
use Rattle.df_frame.specs.Numbers.{are_below}

-- the tag of a row number
abbrev pub row_tag : ℕ → Tag
row_tag n = record { first = n + 1; second = 0; third = 0 }

-- what has a number, at the tag of it
abbrev pub at_tag : {X : Type 0} → ℕ × X → Tag × X
at_tag r = (row_tag r.0, r.1)

-- the rows of a frame by their tags
abbrev pub tagged_rows_of : FrameState → TaggedRows
tagged_rows_of f = finite.from_sorted (map at_tag f.rows)

-- the table of a frame
abbrev pub table_parts : FrameParts → TableParts
table_parts f = record { schema = f.schema; rows = tagged_rows_of f.state }

-- a row of a table behind the number of its tag
abbrev pub numbered_row : Tag × List Cell → ℕ × List Cell
numbered_row e = (e.0.first - 1, e.1)

-- the rows of a table behind the numbers of their tags
abbrev pub numbered_rows : TaggedRows → List (ℕ × List Cell)
numbered_rows t = map numbered_row (finite.entries t)

-- the tag of each row of a table is that of a number below 2^32
pub record IsNumberedTable (t : TaggedRows) : Type 0 where
  pub tags : map at_tag (numbered_rows t) ≡ finite.entries t
  pub below : IsTrue (are_below limits.row_numbers (map (λ r. r.0) (numbered_rows t)))

-- a frame's table and books are sound: each tag is that of its row's number, and the books are the sizes of the two
-- sets of numbers
pub record IsTabled (accepted : List ℕ) (t : TaggedRows) (accepted_rows deleted_rows : ℕ) : Type 0 where
  pub tags : map at_tag (numbered_rows t) ≡ finite.entries t
  pub counts_accepted : accepted_rows ≡ length accepted
  pub counts_deleted : deleted_rows ≡ length (deleted_numbers accepted (numbered_rows t))

-- t with each of these rows, or with nothing, at its number. The first of a number holds
abbrev pub set_rows : TaggedRows → List (ℕ × Option (List Cell)) → TaggedRows
set_rows t [] = t
set_rows t (r ∷ rs) = set_at (set_rows t rs) (row_tag r.0) r.1

-- a map has, by rising tags, what comes to stand at the tag of each number. The first of a number holds
pub record HasNewRows (new_rows : BTreeMap Tag (Option (List Cell))) (rs : List (ℕ × Option (List Cell))) : Type 0 where
  pub rising : IsOrdered tag_cmp new_rows
  pub at : (q : Tag) → get tag_cmp new_rows q ≡ finite.find tag_cmp q (map at_tag rs)

-- a row that comes where none was
abbrev pub coming_row : ℕ × List Cell → Tag × Change (List Cell)
coming_row r = coming (at_tag r)
