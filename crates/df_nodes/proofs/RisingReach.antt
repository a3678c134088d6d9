-- The tags that changes reach rise.
use Rattle.std.proofs.Common.{◌≡◌, ℕ, zero, suc, ◌-◌, Bool, true, false, cond, List, [], ◌∷◌, ◌++◌, map, take, filter, refl, sym, subst, append-nil}
use Rattle.std.specs.Prelude.{T}
use Rattle.std.specs.List.{list_all}
use Rattle.std.specs.FinMap as finite
use Rattle.std.specs.FinMap.Entries.{below_all, is_sorted-where_key}
use Rattle.df_value.specs.declared.cell.Cell.{Cell}
use Rattle.df_column.specs.Bounds.{is_below}
use Rattle.df_column.specs.Changes.{Change}
use Rattle.df_column.specs.Tags.{tag_cmp}
use Rattle.df_column.specs.declared.tag.Tag.{Tag}
use Rattle.df_delta.specs.Reached.{are_rising}
use Rattle.df_delta.proofs.Collected.{T-first, T-second, T-both}
use Rattle.df_nodes.specs.Rolling.{reached, reached_by}
use Rattle.df_nodes.proofs.TagTests.{below_more}
use Rattle.df_nodes.proofs.UpTo.{Rows}

abbrev Notes : Type 0
Notes = List (Tag × Change (List Cell))

abbrev marked : List Tag → List (Tag × Bool)
marked qs = map (λ q. (q, true)) qs

-- this tag is below all of these
abbrev is_first : Tag → List Tag → Bool
is_first q qs = below_all tag_cmp q (marked qs)

first_of_joined : (x y : Tag) (xs ys : List Tag) → T (is_first x xs) → T (is_below x y) → T (is_first y ys) → T (is_first x (xs ++ y ∷ ys))
first_of_joined x y [] ys h lt k = T-both _ _ lt (below_more x y (marked ys) lt k)
first_of_joined x y (z ∷ xs) ys h lt k = T-both _ _ (T-first _ _ h) (first_of_joined x y xs ys (T-second _ _ h) lt k)

joined : (xs : List Tag) (y : Tag) (ys : List Tag) → T (are_rising xs) → T (list_all (λ x. is_below x y) xs) → T (are_rising (y ∷ ys)) → T (are_rising (xs ++ y ∷ ys))
joined [] y ys h lt k = k
joined (x ∷ xs) y ys h lt k =
    T-both _ _ (first_of_joined x y xs ys (T-first _ _ h) (T-first (is_below x y) _ lt) (T-first (is_first y ys) _ k))
    (joined xs y ys (T-second _ _ h) (T-second (is_below x y) _ lt) k)

below_take : (q : Tag) (k : ℕ) (rows : Rows) → T (below_all tag_cmp q rows) → T (below_all tag_cmp q (take k rows))
below_take q zero [] h = tt
below_take q zero (r ∷ rows) h = tt
below_take q (suc k) [] h = tt
below_take q (suc k) (r ∷ rows) h = T-both _ _ (T-first _ _ h) (below_take q k rows (T-second _ _ h))

sorted_take : (k : ℕ) (rows : Rows) → T (finite.is_sorted tag_cmp rows) → T (finite.is_sorted tag_cmp (take k rows))
sorted_take zero [] h = tt
sorted_take zero (r ∷ rows) h = tt
sorted_take (suc k) [] h = tt
sorted_take (suc k) (r ∷ rows) h = T-both _ _ (below_take r.0 k rows (T-first _ _ h)) (sorted_take k rows (T-second _ _ h))

first_of_rows : (q : Tag) (rows : Rows) → T (below_all tag_cmp q rows) → T (is_first q (map (λ r. r.0) rows))
first_of_rows q [] h = tt
first_of_rows q (r ∷ rows) h = T-both _ _ (T-first _ _ h) (first_of_rows q rows (T-second _ _ h))

rising_rows : (rows : Rows) → T (finite.is_sorted tag_cmp rows) → T (are_rising (map (λ r. r.0) rows))
rising_rows [] h = tt
rising_rows (r ∷ rows) h = T-both _ _ (first_of_rows r.0 rows (T-first _ _ h)) (rising_rows rows (T-second _ _ h))

-- what a filter keeps is above the tag that it asks for
behind_all : (a : Tag) (rows : Rows) → T (below_all tag_cmp a (filter (λ r. is_below a r.0) rows))
behind_all a [] = tt
behind_all a (r ∷ rows) = by_case (is_below a r.0) refl (behind_all a rows)
  where
    by_case : (b : Bool) → is_below a r.0 ≡ b → T (below_all tag_cmp a (filter (λ r. is_below a r.0) rows)) → T (below_all tag_cmp a (cond b (r ∷ filter (λ r. is_below a r.0) rows) (filter (λ r. is_below a r.0) rows)))
    by_case true e rest = T-both _ _ (subst T (sym e) tt) rest
    by_case false e rest = rest

rising_by : (w : ℕ) (a : Tag) (rows : Rows) → T (finite.is_sorted tag_cmp rows) → T (are_rising (reached_by w a rows))
rising_by w a rows sorted =
    let later = filter (λ r. is_below a r.0) rows in
    T-both _ _ (first_of_rows a (take (w - 1) later) (below_take a (w - 1) later (behind_all a rows)))
    (rising_rows (take (w - 1) later) (sorted_take (w - 1) later (is_sorted-where_key tag_cmp (is_below a) rows sorted)))

-- what is reached before a change stands below it
passing : (p : Tag × List Cell → Bool) (rows : Rows) → T (list_all p (filter p rows))
passing p [] = tt
passing p (r ∷ rows) = by_case (p r) refl (passing p rows)
  where
    by_case : (b : Bool) → p r ≡ b → T (list_all p (filter p rows)) → T (list_all p (cond b (r ∷ filter p rows) (filter p rows)))
    by_case true e rest = T-both _ _ (subst T (sym e) tt) rest
    by_case false e rest = rest

still : (p q : Tag × List Cell → Bool) (rows : Rows) → T (list_all p rows) → T (list_all p (filter q rows))
still p q [] h = tt
still p q (r ∷ rows) h = by_case (q r) (T-first (p r) _ h) (still p q rows (T-second (p r) _ h))
  where
    by_case : (b : Bool) → T (p r) → T (list_all p (filter q rows)) → T (list_all p (cond b (r ∷ filter q rows) (filter q rows)))
    by_case true here rest = T-both _ _ here rest
    by_case false here rest = rest

still_front : (p : Tag × List Cell → Bool) (k : ℕ) (rows : Rows) → T (list_all p rows) → T (list_all p (take k rows))
still_front p zero [] h = tt
still_front p zero (r ∷ rows) h = tt
still_front p (suc k) [] h = tt
still_front p (suc k) (r ∷ rows) h = T-both (p r) _ (T-first (p r) _ h) (still_front p k rows (T-second (p r) _ h))

tags_below : (b : Tag) (rows : Rows) → T (list_all (λ r. is_below r.0 b) rows) → T (list_all (λ x. is_below x b) (map (λ r. r.0) rows))
tags_below b [] h = tt
tags_below b (r ∷ rows) h = T-both (is_below r.0 b) _ (T-first (is_below r.0 b) _ h) (tags_below b rows (T-second (is_below r.0 b) _ h))

-- the tags that are reached rise
pub rising_reached : (w : ℕ) (rows : Rows) (notes : Notes) → T (finite.is_sorted tag_cmp rows) → T (finite.is_sorted tag_cmp notes) → T (are_rising (reached w rows notes))
rising_reached w rows [] sorted rising = tt
rising_reached w rows (c ∷ []) sorted rising = subst (λ qs. T (are_rising qs)) (sym (append-nil (reached_by w c.0 rows))) (rising_by w c.0 rows sorted)
rising_reached w rows (c ∷ n ∷ notes) sorted rising =
    let lower = filter (λ r. is_below r.0 n.0) rows in
    let later = filter (λ r. is_below c.0 r.0) lower in
    let all : T (list_all (λ r. is_below r.0 n.0) (take (w - 1) later)) = still_front (λ r. is_below r.0 n.0) (w - 1) later (still (λ r. is_below r.0 n.0) (λ r. is_below c.0 r.0) lower (passing (λ r. is_below r.0 n.0) rows)) in
    joined (reached_by w c.0 lower) n.0 _
    (rising_by w c.0 lower (is_sorted-where_key tag_cmp (λ x. is_below x n.0) rows sorted))
    (T-both (is_below c.0 n.0) _ (T-first (is_below c.0 n.0) _ (T-first _ _ rising)) (tags_below n.0 (take (w - 1) later) all))
    (rising_reached w rows (n ∷ notes) sorted (T-second _ _ rising))
