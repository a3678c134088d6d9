-- The join of two tagged tables.
use Rattle.std.specs.Prelude.{Bool, false, cond, ◌==◌, List, [], ◌∷◌, map, Option, Some, None}
use Rattle.std.specs.List.{flat_map, filter}
use Rattle.std.specs.FinMap.{FinMap, empty, entries, insert, len}
use Rattle.std.specs.declared.cmp.Ordering.{Ordering}
use Rattle.df_column.specs.Tags.{tag_cmp}
use Rattle.df_delta.specs.Collected.{collected, kept}
use Rattle.df_join.specs.Spread.{no_tag, spread}

-- whether the two keys are there and equal
abbrev pub matches : {G : Type 0} → (G → G → Bool) → Option G → Option G → Bool
matches same_key None k = false
matches same_key (Some j) None = false
matches same_key (Some j) (Some k) = same_key j k

-- how a join takes the keys of its rows, none where a key matches nothing; when two keys are equal; the row that it makes
-- of a left row and its match, or of a left row alone; and whether a left row without a match stays
pub record Join (X Y Z G : Type 0) : Type 0 where
  pub left_key : X → Option G
  pub right_key : Y → Option G
  pub same_key : G → G → Bool
  pub row : X → Option Y → Z
  pub keeps_left : Bool

module _ {X Y Z G : Type 0} (j : Join X Y Z G) where
  -- the right rows of the key
  abbrev pub right_rows : Option G → FinMap tag_cmp Y → FinMap tag_cmp Y
  right_rows k r = kept (λ y. matches j.same_key k (j.right_key y)) r

  -- the left rows of the key
  abbrev pub left_rows : Option G → FinMap tag_cmp X → FinMap tag_cmp X
  left_rows k l = kept (λ x. matches j.same_key (j.left_key x) k) l

  -- the row alone, under the tag of no right row
  abbrev pub alone : X → FinMap tag_cmp Z
  alone x = cond j.keeps_left (insert empty no_tag (j.row x None)) empty

  -- the row beside each of these right rows, by their tags
  abbrev pub beside : X → FinMap tag_cmp Y → FinMap tag_cmp Z
  beside x m = cond (len m == 0) (alone x) (collected (λ _ y. Some (j.row x (Some y))) m)

  -- the join of a left side over one scan, or else two
  abbrev pub joined : Bool → FinMap tag_cmp X → FinMap tag_cmp Y → FinMap tag_cmp Z
  joined one l r = spread one (λ x. beside x (right_rows (j.left_key x) r)) l

  -- On plain rows: for each left row in order the matching right rows in order
  abbrev pub or_alone : X → List Z → List Z
  or_alone x [] = cond j.keeps_left (j.row x None ∷ []) []
  or_alone x (z ∷ zs) = z ∷ zs

  abbrev pub join : List X → List Y → List Z
  join xs ys = flat_map (λ x. or_alone x (map (λ y. j.row x (Some y)) (filter (λ y. matches j.same_key (j.left_key x) (j.right_key y)) ys))) xs

-- the rows without their tags
abbrev pub rows_of : {K X : Type 0} {R : K → K → Ordering} → FinMap R X → List X
rows_of t = map (λ e. e.1) (entries t)
