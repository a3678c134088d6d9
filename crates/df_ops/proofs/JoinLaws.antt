-- What a join is, in words of its sides: how many rows it has, where they begin, and when it drops none.
use Rattle.std.proofs.Common.{◌≡◌, ℕ, ◌∙◌, ◌<◌, Bool, true, false, cond, zero, suc, List, [], ◌∷◌, ◌++◌, length, take, map, filter, refl, ap, arith, All}
use Rattle.std.specs.Prelude.{◌||◌}
use Rattle.std.specs.List.{list_any, sum_by}
use Rattle.std.proofs.Math.Seq.{take-append_seam}
use Rattle.std.proofs.lemmas.List.{length-map}
use Rattle.std.proofs.lemmas.List.Concat.{length-flat_map}
use Rattle.df_value.specs.declared.cell.Cell.{Cell}
use Rattle.df_ops.specs.Groups.{key_of}
use Rattle.df_ops.specs.Joins.{has_match, join_count, join_row, join_rows, keys_match, match_count, matches_of, nulls_for, left_beside}
use Rattle.df_ops.specs.declared.join_columns.JoinIndices.{JoinIndices}
use Rattle.df_ops.specs.declared.joins.How.{How}
use Rattle.df_ops.specs.declared.joins.How.TheVariants as how
use Rattle.df_value.specs.Choices.{by_test}

abbrev Rows : Type 0
Rows = List (List Cell)

put_count : (h : How) (l nulls : List Cell) (rs : Rows) → length (left_beside h l nulls rs) ≡ join_count h (length rs)
put_count how.Inner l nulls [] = refl
put_count how.Left l nulls [] = refl
put_count how.Inner l nulls (r ∷ rs) = length-map (r ∷ rs) (λ q. l ++ q)
put_count how.Left l nulls (r ∷ rs) =
    let long = length-map (r ∷ rs) (λ q. l ++ q) in
    omega arith

-- one left row gives a row for each match, and in a left join at least one
pub row_count : (h : How) (s : JoinIndices) (rights : Rows) (l : List Cell) → length (join_row h s rights l) ≡ join_count h (match_count s rights l)
unfolding join_row
row_count h s rights l =
    let matches = matches_of s.nulls_equal s.right (key_of s.left l) rights in
    put_count h l (nulls_for s.rest) (map (key_of s.rest) matches) ∙ ap (join_count h) (length-map matches (key_of s.rest))

put_some : (h : How) (l nulls : List Cell) (rs : Rows) → h ≡ how.Left → 0 < length (left_beside h l nulls rs)
put_some how.Inner l nulls rs e = cc
put_some how.Left l nulls [] e = omega arith
put_some how.Left l nulls (r ∷ rs) e = omega arith

-- a left join keeps the row
pub row_kept : (h : How) (s : JoinIndices) (rights : Rows) (l : List Cell) → h ≡ how.Left → 0 < length (join_row h s rights l)
unfolding join_row
row_kept h s rights l e = put_some h l (nulls_for s.rest) (map (key_of s.rest) (matches_of s.nulls_equal s.right (key_of s.left l) rights)) e

pub rows_count :
    (h : How) (s : JoinIndices) (lefts rights : Rows) →
    length (join_rows h s lefts rights) ≡ sum_by (λ l. join_count h (match_count s rights l)) lefts
rows_count h s lefts rights =
    length-flat_map (join_row h s rights) lefts ∙ ap (λ (f : List Cell → ℕ). sum_by f lefts) (λ i. λ l. row_count h s rights l i)

each_begins : (l : List Cell) (rs : Rows) → All (λ r. take (length l) r ≡ l) (map (λ q. l ++ q) rs)
each_begins l [] k d h = absurd (omega arith)
each_begins l (r ∷ rs) zero d h = take-append_seam l r
each_begins l (r ∷ rs) (suc k) d h = each_begins l rs k d (omega arith)

put_begins : (h : How) (l nulls : List Cell) (rs : Rows) → All (λ r. take (length l) r ≡ l) (left_beside h l nulls rs)
put_begins how.Inner l nulls [] = each_begins l []
put_begins how.Left l nulls [] = each_begins l (nulls ∷ [])
put_begins how.Inner l nulls (r ∷ rs) = each_begins l (r ∷ rs)
put_begins how.Left l nulls (r ∷ rs) = each_begins l (r ∷ rs)

-- each row that a left row gives begins with it
pub row_begins : (h : How) (s : JoinIndices) (rights : Rows) (l : List Cell) → All (λ r. take (length l) r ≡ l) (join_row h s rights l)
unfolding join_row
row_begins h s rights l = put_begins h l (nulls_for s.rest) (map (key_of s.rest) (matches_of s.nulls_equal s.right (key_of s.left l) rights))

-- a filter that keeps a row
alike :
    (f : List Cell → List Cell) (l nulls : List Cell) (b : Bool) (r : List Cell) (rs : Rows) (later : Bool) → (b || later) ≡ true →
    (later ≡ true → left_beside how.Inner l nulls (map f rs) ≡ left_beside how.Left l nulls (map f rs)) →
    left_beside how.Inner l nulls (map f (cond b (r ∷ rs) rs)) ≡ left_beside how.Left l nulls (map f (cond b (r ∷ rs) rs))
alike f l nulls true r rs later h rest = refl
alike f l nulls false r rs later h rest = rest h

put_alike :
    (f : List Cell → List Cell) (l nulls : List Cell) (p : List Cell → Bool) (rs : Rows) → list_any p rs ≡ true →
    left_beside how.Inner l nulls (map f (filter p rs)) ≡ left_beside how.Left l nulls (map f (filter p rs))
put_alike f l nulls p [] h = cc
put_alike f l nulls p (r ∷ rs) h = alike f l nulls (p r) r (filter p rs) (list_any p rs) h (put_alike f l nulls p rs)

-- and one that keeps none
gone :
    (f : List Cell → List Cell) (l nulls : List Cell) (b : Bool) (r : List Cell) (rs : Rows) (later : Bool) → (b || later) ≡ false →
    (later ≡ false → left_beside how.Inner l nulls (map f rs) ≡ []) → left_beside how.Inner l nulls (map f (cond b (r ∷ rs) rs)) ≡ []
gone f l nulls true r rs later h rest = cc
gone f l nulls false r rs later h rest = rest h

put_none :
    (f : List Cell → List Cell) (l nulls : List Cell) (p : List Cell → Bool) (rs : Rows) → list_any p rs ≡ false →
    left_beside how.Inner l nulls (map f (filter p rs)) ≡ []
put_none f l nulls p [] h = refl
put_none f l nulls p (r ∷ rs) h = gone f l nulls (p r) r (filter p rs) (list_any p rs) h (put_none f l nulls p rs)

row_alike : (s : JoinIndices) (rights : Rows) (l : List Cell) → has_match s rights l ≡ true → join_row how.Inner s rights l ≡ join_row how.Left s rights l
unfolding join_row
row_alike s rights l h = put_alike (key_of s.rest) l (nulls_for s.rest) (λ r. keys_match s.nulls_equal (key_of s.left l) (key_of s.right r)) rights h

row_none : (s : JoinIndices) (rights : Rows) (l : List Cell) → has_match s rights l ≡ false → join_row how.Inner s rights l ≡ []
unfolding join_row
row_none s rights l h = put_none (key_of s.rest) l (nulls_for s.rest) (λ r. keys_match s.nulls_equal (key_of s.left l) (key_of s.right r)) rights h

-- an inner join is the left join of those left rows that have a match
pub inner_is_left :
    (s : JoinIndices) (rights lefts : Rows) →
    join_rows how.Inner s lefts rights ≡ join_rows how.Left s (filter (has_match s rights) lefts) rights
inner_is_left s rights [] = refl
inner_is_left s rights (l ∷ ls) =
    let kept = filter (has_match s rights) ls in
    let rest = inner_is_left s rights ls in
    by_test (λ (rows : Rows). join_row how.Inner s rights l ++ join_rows how.Inner s ls rights ≡ join_rows how.Left s rows rights)
    (has_match s rights l) (l ∷ kept) kept
    (λ e. ap (λ (rows : Rows). rows ++ join_rows how.Inner s ls rights) (row_alike s rights l e)
    ∙ ap (λ (rows : Rows). join_row how.Left s rights l ++ rows) rest)
    (λ e. ap (λ (rows : Rows). rows ++ join_rows how.Inner s ls rights) (row_none s rights l e) ∙ rest)
