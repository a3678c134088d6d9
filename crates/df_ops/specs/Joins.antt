-- Joins on columns of one name and type on both sides, as `join` of the Polars Python reference with `how` "inner" or
-- "left", and with or without `nulls_equal`: without it null keys match nothing. A right name that stands on the left gets
-- the suffix `_right`. That rows come in left order, and for one left row in right order, is this project's own choice.
use Rattle.std.specs.Prelude.{◌≡◌, ◌≢◌, ℕ, Bool, true, false, All, Contains, IsTrue, ◌&&◌, ◌||◌, not, List, [], ◌∷◌, ◌++◌, Option, codes, filter, map, max, length, replicate, if◌then◌else◌}
use Rattle.std.specs.List.{list_any, flat_map}
use Rattle.df_value.specs.declared.cell.Cell.{Cell}
use Rattle.df_value.specs.declared.cell.Cell.TheVariants as cell
use Rattle.df_value.specs.declared.cell.CellType.{CellType}
use Rattle.df_value.specs.Rows.{row_eq}
use Rattle.df_value.specs.Names.{has_name}
use Rattle.df_value.specs.Schemas.{Columns}
use Rattle.df_expr.specs.Value.{is_null}
use Rattle.df_ops.specs.Groups.{key_of}
use Rattle.df_ops.specs.NamedColumns.{has_column, column_indices}
use Rattle.df_ops.specs.declared.join_columns.JoinIndices.{JoinIndices}
use Rattle.df_ops.specs.declared.joins.How.{How}
use Rattle.df_ops.specs.declared.joins.How.TheVariants as how

abbrev Rows : Type 0
Rows = List (List Cell)

-- whether a column is a key
abbrev pub is_key : List (List ℕ) → List ℕ × CellType → Bool
is_key keys c = has_name (λ k. k) c.0 keys

-- the right columns that are no keys
abbrev pub columns_without_keys : List (List ℕ) → Columns → Columns
columns_without_keys keys right = filter (λ c. not (is_key keys c)) right

-- a right column beside the left ones: under its name, or where that stands on the left, with a suffix
abbrev pub right_column : Columns → List ℕ × CellType → List ℕ × CellType
right_column left c = if has_column c.0 left then (c.0 ++ codes "_right", c.1) else c

-- the left columns, and after them the right ones that are no keys
abbrev pub columns_of_join : Columns → Columns → List (List ℕ) → Columns
columns_of_join left right keys = left ++ map (right_column left) (columns_without_keys keys right)

-- whether two keys match: they are the same, and unless nulls are equal no cell of them is null
abbrev pub keys_match : Bool → List Cell → List Cell → Bool
keys_match nulls_equal left right = row_eq right left && (nulls_equal || not (list_any is_null left))

-- the right rows whose key matches, in their order
abbrev pub matches_of : Bool → List (Option ℕ) → List Cell → Rows → Rows
matches_of nulls_equal indices key rights = filter (λ r. keys_match nulls_equal key (key_of indices r)) rights

-- a null for each of these indices
abbrev pub nulls_for : List (Option ℕ) → List Cell
nulls_for indices = map (λ p. cell.Null) indices

-- a left row beside each of these; in a left join, where there is none, once beside nulls
abbrev pub left_beside : How → List Cell → List Cell → Rows → Rows
left_beside how.Inner left nulls [] = []
left_beside how.Left left nulls [] = (left ++ nulls) ∷ []
left_beside h left nulls (r ∷ rs) = map (λ q. left ++ q) (r ∷ rs)

-- the column indices of the keys on the left and on the right, and of the right columns that are no keys; whether nulls
-- are equal
abbrev pub join_indices_of : Columns → Columns → List (List ℕ) → Bool → JoinIndices
join_indices_of left right keys nulls_equal = record {
  left = column_indices left keys;
  right = column_indices right keys;
  rest = column_indices right (map (λ c. c.0) (columns_without_keys keys right));
  nulls_equal = nulls_equal;
}

-- the rows that one left row gives
unfoldable pub join_row : How → JoinIndices → Rows → List Cell → Rows
join_row h s rights left =
    left_beside h left (nulls_for s.rest) (map (key_of s.rest) (matches_of s.nulls_equal s.right (key_of s.left left) rights))

-- the rows of a join
abbrev pub join_rows : How → JoinIndices → Rows → Rows → Rows
join_rows h s lefts rights = flat_map (join_row h s rights) lefts

-- whether a left row has a match
abbrev pub has_match : JoinIndices → Rows → List Cell → Bool
has_match s rights left = list_any (λ r. keys_match s.nulls_equal (key_of s.left left) (key_of s.right r)) rights

-- how many matches a left row has
abbrev pub match_count : JoinIndices → Rows → List Cell → ℕ
match_count s rights left = length (matches_of s.nulls_equal s.right (key_of s.left left) rights)

-- how many rows a left row with so many matches gives
abbrev pub join_count : How → ℕ → ℕ
join_count how.Inner n = n
join_count how.Left n = max 1 n

-- a right row matches a left one: the cells of its keys are those of the left row's, and unless nulls are equal none of
-- them is null
abbrev pub Matches : JoinIndices → List Cell → List Cell → Type 0
Matches s left right =
    (key_of s.left left ≡ key_of s.right right) × (IsTrue (not s.nulls_equal) → All (λ c. c ≢ cell.Null) (key_of s.left left))

-- a left row without a null in its key has the same matches whether nulls are equal or not
abbrev pub SameWithoutNulls : JoinIndices → Rows → List Cell → Type 0
SameWithoutNulls s rights left =
    All (λ c. c ≢ cell.Null) (key_of s.left left) →
    matches_of true s.right (key_of s.left left) rights ≡ matches_of false s.right (key_of s.left left) rights

-- where rows are joined with themselves and nulls are equal, each row stands beside its own further cells at least once
abbrev pub JoinsItself : How → JoinIndices → Rows → Type 0
JoinsItself h s rows =
    s.left ≡ s.right → IsTrue s.nulls_equal → All (λ row. Contains (join_rows h s rows rows) (row ++ key_of s.rest row)) rows

-- which rows a left row gives: beside it stand the further cells of each right row that matches, in right order; in a
-- left join of a row without a match nulls stand there, once
pub record IsJoinOfRow (s : JoinIndices) (left : List Cell) (joined : How → Rows → Rows) : Type 0 where
  pub match : (right : List Cell) → Matches s left right → joined how.Inner (right ∷ []) ≡ (left ++ key_of s.rest right) ∷ []
  pub no_match : (right : List Cell) → ¬ (Matches s left right) → joined how.Inner (right ∷ []) ≡ []
  pub of_parts : (first second : Rows) → joined how.Inner (first ++ second) ≡ joined how.Inner first ++ joined how.Inner second
  pub like_inner : (rights : Rows) → joined how.Inner rights ≢ [] → joined how.Left rights ≡ joined how.Inner rights
  pub nulls : (rights : Rows) → joined how.Inner rights ≡ [] → joined how.Left rights ≡ (left ++ replicate (length s.rest) cell.Null) ∷ []

-- the rows of one left row are those that it gives, and the rows of the whole are those of its parts in their order
pub record JoinsInOrder (h : How) (s : JoinIndices) (rights : Rows) : Type 0 where
  pub of_one : (left : List Cell) → join_rows h s (left ∷ []) rights ≡ join_row h s rights left
  pub of_parts : (first second : Rows) → join_rows h s (first ++ second) rights ≡ join_rows h s first rights ++ join_rows h s second rights
