-- Rows below a tag and up to it, from a place in rows by rising tags or a gap there.
use Rattle.std.proofs.Common.{◌≡◌, ℕ, zero, suc, ◌+◌, ◌-◌, ◌<◌, ◌≤◌, Bool, List, [], ◌∷◌, ◌++◌, length, map, take, drop, get_or, refl, sym, ap, subst, ◌∙◌, arith, not, length-take}
use Rattle.std.specs.Prelude.{T}
use Rattle.std.specs.List.{list_all}
use Rattle.std.specs.Ordering.{ordering_reverse}
use Rattle.std.proofs.lemmas.List.{get_or-map, take_more, drop-append-le, drop_all}
use Rattle.std.specs.declared.cmp.Ordering.{Ordering}
use Rattle.std.specs.declared.cmp.Ordering.TheVariants.{Less, Equal, Greater}
use Rattle.std.specs.FinMap.{is_sorted}
use Rattle.std.specs.FinMap.Entries.{below_all}
use Rattle.df_value.specs.declared.cell.Cell.{Cell}
use Rattle.df_column.specs.Bounds.{IsLowerBound, IsUpperBound, is_below}
use Rattle.df_column.specs.Places.{IsGap, IsPlace}
use Rattle.df_column.specs.TagOrder.{tag_total, tag_same}
use Rattle.df_column.specs.Tags.{tag_cmp}
use Rattle.df_column.specs.declared.tag.Tag.{Tag}
use Rattle.df_column.proofs.Bools.{T-first, T-second, T-both, less_from_is_lt, is_lt_from_less, not_less}

-- a test that all items up to an index pass, or all from it on
module _ {X : Type 0} (p : X → Bool) where
  all_front : (xs : List X) (n : ℕ) → ((j : ℕ) (d : X) → j < n → j < length xs → T (p (get_or xs j d))) → T (list_all p (take n xs))
  all_front [] zero h = tt
  all_front [] (suc n) h = tt
  all_front (x ∷ xs) zero h = tt
  all_front (x ∷ xs) (suc n) h = T-both _ _ (h 0 x (omega arith) (omega arith)) (all_front xs n (λ j d lt in_range. h (suc j) d (omega arith) (omega arith)))

  all_back : (xs : List X) (n : ℕ) → ((j : ℕ) (d : X) → n ≤ j → j < length xs → T (p (get_or xs j d))) → T (list_all p (drop n xs))
  all_back [] zero h = tt
  all_back [] (suc n) h = tt
  all_back (x ∷ xs) zero h = T-both _ _ (h 0 x (omega arith) (omega arith)) (all_back xs zero (λ j d le in_range. h (suc j) d (omega arith) (omega arith)))
  all_back (x ∷ xs) (suc n) h = all_back xs n (λ j d le in_range. h (suc j) d (omega arith) (omega arith))

abbrev pub Rows : Type 0
Rows = List (Tag × List Cell)

turned : (a b : Tag) (r : Ordering) → tag_cmp a b ≡ r → tag_cmp b a ≡ ordering_reverse r
turned a b r e = tag_total.antisymm b a ∙ ap ordering_reverse e

not_both : (a b : Tag) → tag_cmp a b ≡ Less → tag_cmp b a ≡ Less → ⊥
not_both a b e f = let g = turned a b Less e in cc (f, g)

not_itself : (a b : Tag) → tag_cmp a b ≡ Equal → tag_cmp a b ≡ Less → ⊥
not_itself a b e f = cc (e, f)

-- a later row has a greater tag
under : (rows : Rows) (k : Tag) (j : ℕ) (d : Tag × List Cell) → T (below_all tag_cmp k rows) → j < length rows → tag_cmp k (get_or rows j d).0 ≡ Less
under [] k j d h lt = absurd (omega arith)
under (r ∷ rows) k zero d h lt = less_from_is_lt _ (T-first _ _ h)
under (r ∷ rows) k (suc j) d h lt = under rows k j d (T-second _ _ h) (omega arith)

pair : (rows : Rows) (i j : ℕ) (d : Tag × List Cell) → T (is_sorted tag_cmp rows) → i < j → j < length rows → tag_cmp (get_or rows i d).0 (get_or rows j d).0 ≡ Less
pair [] i j d h lt in_range = absurd (omega arith)
pair (r ∷ rows) zero zero d h lt in_range = absurd (omega arith)
pair (r ∷ rows) zero (suc j) d h lt in_range = under rows r.0 j d (T-first _ _ h) (omega arith)
pair (r ∷ rows) (suc i) zero d h lt in_range = absurd (omega arith)
pair (r ∷ rows) (suc i) (suc j) d h lt in_range = pair rows i j d (T-second _ _ h) (omega arith) (omega arith)

module _ (rows : Rows) (tag : Tag) where
  pub lower_at_gap : (i : ℕ) → IsGap tag_cmp rows tag i → IsLowerBound tag rows i
  lower_at_gap i g = record {
    within = g.in_range;
    before = all_front (λ r. is_below r.0 tag) rows i (λ j d lt _. is_lt_from_less _ (g.before j d lt));
    after = all_back (λ r. not (is_below r.0 tag)) rows i (λ j d le lt. not_less _ (λ e. let f = g.after j d le lt in cc (e, f)));
  }

  pub upper_at_gap : (i : ℕ) → IsGap tag_cmp rows tag i → IsUpperBound tag rows i
  upper_at_gap i g = record {
    within = g.in_range;
    before = all_front (λ r. not (is_below tag r.0)) rows i (λ j d lt _. not_less _ (λ e. not_both (get_or rows j d).0 tag (g.before j d lt) e));
    after = all_back (λ r. is_below tag r.0) rows i (λ j d le lt. is_lt_from_less _ (turned (get_or rows j d).0 tag Greater (g.after j d le lt)));
  }

  module _ (i : ℕ) (sorted : T (is_sorted tag_cmp rows)) (p : IsPlace tag_cmp rows tag i) where
    here : (d : Tag × List Cell) → (get_or rows i d).0 ≡ tag
    here d = tag_same _ _ (p.here d)

    less : (j : ℕ) (d : Tag × List Cell) → j < i → tag_cmp (get_or rows j d).0 tag ≡ Less
    less j d lt = subst (λ k. tag_cmp (get_or rows j d).0 k ≡ Less) (here d) (pair rows j i d sorted lt p.in_range)

    greater : (j : ℕ) (d : Tag × List Cell) → i < j → j < length rows → tag_cmp tag (get_or rows j d).0 ≡ Less
    greater j d lt in_range = subst (λ k. tag_cmp k (get_or rows j d).0 ≡ Less) (here d) (pair rows i j d sorted lt in_range)

    not_below : (j : ℕ) (d : Tag × List Cell) (n : ℕ) → j ≡ i + n → j < length rows → tag_cmp (get_or rows j d).0 tag ≡ Less → ⊥
    not_below j d zero is lt e = let k : j ≡ i = omega arith in not_itself (get_or rows j d).0 tag (subst (λ n. tag_cmp (get_or rows n d).0 tag ≡ Equal) (sym k) (p.here d)) e
    not_below j d (suc n) is lt e = not_both tag (get_or rows j d).0 (greater j d (omega arith) lt) e

    not_above : (j : ℕ) (d : Tag × List Cell) (n : ℕ) → j + n ≡ i → tag_cmp tag (get_or rows j d).0 ≡ Less → ⊥
    not_above j d zero is e = let k : j ≡ i = omega arith in not_itself tag (get_or rows j d).0 (turned (get_or rows j d).0 tag Equal (subst (λ n. tag_cmp (get_or rows n d).0 tag ≡ Equal) (sym k) (p.here d))) e
    not_above j d (suc n) is e = not_both (get_or rows j d).0 tag (less j d (omega arith)) e

    pub lower_at_place : IsLowerBound tag rows i
    lower_at_place = record {
      within = omega (arith, p.in_range);
      before = all_front (λ r. is_below r.0 tag) rows i (λ j d lt _. is_lt_from_less _ (less j d lt));
      after = all_back (λ r. not (is_below r.0 tag)) rows i (λ j d le lt. not_less _ (not_below j d (j - i) (omega arith) lt));
    }

    pub upper_at_place : IsUpperBound tag rows (i + 1)
    upper_at_place = record {
      within = omega (arith, p.in_range);
      before = all_front (λ r. not (is_below tag r.0)) rows (i + 1) (λ j d lt _. not_less _ (not_above j d (i - j) (omega arith)));
      after = all_back (λ r. is_below tag r.0) rows (i + 1) (λ j d le lt. is_lt_from_less _ (greater j d (omega arith) lt));
    }

-- one more row between two indexes
pub between_more : (rows : Rows) (out : List (List Cell)) (low at : ℕ) (row : List Cell) → low ≤ at → at < length rows → ((d : Tag × List Cell) → row ≡ (get_or rows at d).1)
    → out ≡ drop low (take at (map (λ r. r.1) rows)) → out ++ row ∷ [] ≡ drop low (take (at + 1) (map (λ r. r.1) rows))
between_more rows out low at row le lt is e =
    let values = map (λ r. r.1) rows in
    let d : Tag × List Cell = (record { first = 0; second = 0; third = 0 }, []) in
    let long = length_map rows in
    let front = length-take at values in
    ap (λ xs. xs ++ row ∷ []) e
    ∙ ap (λ r. drop low (take at values) ++ r ∷ []) (is d ∙ sym (get_or-map (λ r. r.1) rows at d [] lt))
    ∙ sym (drop-append-le low (take at values) (get_or values at [] ∷ []) (omega arith))
    ∙ ap (drop low) (sym (take_more values at [] (omega arith)))
  where
    length_map : (rows : Rows) → length (map (λ r. r.1) rows) ≡ length rows
    length_map [] = refl
    length_map (r ∷ rows) = ap suc (length_map rows)

pub between_none : (values : List (List Cell)) (low : ℕ) → [] ≡ drop low (take low values)
between_none values low = let l = length-take low values in sym (drop_all low (take low values) (omega arith))
