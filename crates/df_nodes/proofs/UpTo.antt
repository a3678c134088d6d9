-- The rows up to a tag, in two maps that agree from a tag on.
use Rattle.std.proofs.Common.{◌≡◌, ℕ, zero, suc, ◌+◌, ◌-◌, ◌≤◌, Bool, true, false, cond, not, List, [], ◌∷◌, ◌++◌, length, map, take, drop, filter, Option, Some, None, refl, sym, ap, subst, ◌∙◌, arith, length-append}
use Rattle.std.specs.Prelude.{T, ◌&&◌}
use Rattle.std.specs.List.{list_all}
use Rattle.std.specs.Ordering.{eq_by_cmp}
use Rattle.std.specs.FinMap as finite
use Rattle.std.specs.FinMap.Entries.{find-where_key, is_sorted-where_key, same_entries, where_key}
use Rattle.std.proofs.lemmas.List.{drop-drop, drop_at, length-map, map-append}
use Rattle.df_value.specs.declared.cell.Cell.{Cell}
use Rattle.df_value.specs.Rows.{cell_at}
use Rattle.df_ops.specs.Aggregates.{cells_of}
use Rattle.df_ops.specs.Windows.{window_of}
use Rattle.df_column.specs.Bounds.{is_below}
use Rattle.df_column.specs.TagOrder.{tag_total, tag_same}
use Rattle.df_column.specs.Tables.{TaggedRows}
use Rattle.df_column.specs.Tags.{tag_cmp}
use Rattle.df_column.specs.declared.tag.Tag.{Tag}
use Rattle.df_delta.proofs.Collected.{T-first, T-second, T-both}
use Rattle.df_nodes.specs.Prefixes.{rows_up_to}
use Rattle.df_nodes.proofs.Filters.{filter_none, filter_same}
use Rattle.df_nodes.proofs.TagTests.{all_above, below_more, false_from_not, find_before, from_true, not_back, not_from_false, up_to_below}

abbrev pub Rows : Type 0
Rows = List (Tag × List Cell)

-- the rows behind a tag, up to another
abbrev pub rows_behind : Tag → Tag → Rows → Rows
rows_behind a q rows = filter (λ r. is_below a r.0 && not (is_below q r.0)) rows

twice_not : {X : Type 0} (p : X → Bool) (xs : List X) → T (list_all p xs) → T (list_all (λ x. not (not (p x))) xs)
twice_not p [] h = tt
twice_not p (x ∷ xs) h = T-both (not (not (p x))) _ (not_not (p x) (T-first (p x) _ h)) (twice_not p xs (T-second (p x) _ h))
  where
    not_not : (b : Bool) → T b → T (not (not b))
    not_not true h = tt
    not_not false h = h

and_true : (b c : Bool) → T b → (b && c) ≡ c
and_true true c h = refl
and_true false c h = absurd h

-- the rows up to a tag are those up to a lesser one, and those behind it
pub up_to_parts : (a q : Tag) (rows : Rows) → T (finite.is_sorted tag_cmp rows) → T (is_below a q) → rows_up_to q rows ≡ rows_up_to a rows ++ rows_behind a q rows
up_to_parts a q [] sorted lt = refl
up_to_parts a q (r ∷ rows) sorted lt =
    elim (is_below a r.0) as (λ b. is_below a r.0 ≡ b → rows_up_to q (r ∷ rows) ≡ cond (not b) (r ∷ rows_up_to a rows) (rows_up_to a rows) ++ cond (b && not (is_below q r.0)) (r ∷ rows_behind a q rows) (rows_behind a q rows)) [
      | true ↦ λ t.
          let above : T (is_below a r.0) = from_true _ t in
          let all : T (list_all (λ x. is_below a x.0) rows) = all_above a rows (below_more a r.0 rows above (T-first _ _ sorted)) in
          let none : rows_up_to a rows ≡ [] = filter_none (λ x. not (is_below a x.0)) rows (twice_not (λ x. is_below a x.0) rows all) in
          let same : rows_up_to q rows ≡ rows_behind a q rows = filter_same (λ x. is_below a x.0) (λ x. not (is_below q x.0)) (λ x. is_below a x.0 && not (is_below q x.0)) (λ x h. sym (and_true _ _ h)) rows all in
          ap (λ l. cond (not (is_below q r.0)) (r ∷ l) l) same
          ∙ ap (λ l. l ++ cond (not (is_below q r.0)) (r ∷ rows_behind a q rows) (rows_behind a q rows)) (sym none)
      | false ↦ λ t.
          let low : is_below q r.0 ≡ false = false_from_not _ (not_back r.0 q (up_to_below r.0 a q (not_from_false _ t) lt)) in
          ap (λ b. cond (not b) (r ∷ rows_up_to q rows) (rows_up_to q rows)) low
          ∙ ap (λ l. r ∷ l) (up_to_parts a q rows (T-second _ _ sorted) lt)
    ] refl

module _ (t u : TaggedRows) where
  -- maps that agree where a test holds have the same entries there
  pub same_where : (p : Tag → Bool) → ((x : Tag) → T (p x) → finite.get t x ≡ finite.get u x) → where_key tag_cmp p (finite.entries t) ≡ where_key tag_cmp p (finite.entries u)
  same_where p same =
      same_entries tag_cmp tag_total tag_same _ _
      (is_sorted-where_key tag_cmp p (finite.entries t) (finite.entries_sorted t))
      (is_sorted-where_key tag_cmp p (finite.entries u) (finite.entries_sorted u))
      (λ x. found t x ∙ at x (p x) refl ∙ sym (found u x))
    where
      found : (m : TaggedRows) (x : Tag) → finite.find tag_cmp x (where_key tag_cmp p (finite.entries m)) ≡ cond (p x) (finite.get m x) None
      found m x = find-where_key tag_cmp p x (λ y e. ap p (sym (tag_same x y e))) (finite.entries m) ∙ ap (λ o. cond (p x) o None) (sym (finite.get-entries m x))

      at : (x : Tag) (b : Bool) → p x ≡ b → cond (p x) (finite.get t x) None ≡ cond (p x) (finite.get u x) None
      at x true e = ap (cond (p x) (finite.get t x)) {x = None} refl ∙ ap (λ o. cond (p x) o None) (same x (from_true _ e))
      at x false e = ap (λ b. cond b (finite.get t x) None) e ∙ sym (ap (λ b. cond b (finite.get u x) None) e)

-- the last w cells are those of the last part, where it has so many
pub window_behind : (w : ℕ) (xs ys : List Cell) → w ≤ length ys → window_of w (xs ++ ys) ≡ window_of w ys
window_behind w xs ys enough =
    let l = length-append xs ys in
    let e : length (xs ++ ys) - w ≡ length xs + (length ys - w) = omega arith in
    ap (λ n. drop n (xs ++ ys)) e
    ∙ sym (drop-drop (length ys - w) (length xs) (xs ++ ys))
    ∙ ap (drop (length ys - w)) (drop_at xs ys (length xs) refl)

abbrev pub cells_in : Option ℕ → Rows → List Cell
cells_in index rows = cells_of index (map (λ r. r.1) rows)

-- so two windows are equal whose last rows are
pub same_window : (w : ℕ) (index : Option ℕ) (a q : Tag) (t u : TaggedRows) → T (is_below a q)
    → rows_behind a q (finite.entries t) ≡ rows_behind a q (finite.entries u) → w ≤ length (rows_behind a q (finite.entries u))
    → window_of w (cells_in index (rows_up_to q (finite.entries t))) ≡ window_of w (cells_in index (rows_up_to q (finite.entries u)))
same_window w index a q t u lt same enough =
    one t (subst (λ l. w ≤ length l) (sym same) enough)
    ∙ ap (λ l. window_of w (cells_in index l)) same
    ∙ sym (one u enough)
  where
    one : (m : TaggedRows) → w ≤ length (rows_behind a q (finite.entries m)) → window_of w (cells_in index (rows_up_to q (finite.entries m))) ≡ window_of w (cells_in index (rows_behind a q (finite.entries m)))
    one m many =
        let es = finite.entries m in
        let first = rows_up_to a es in
        let last = rows_behind a q es in
        let n = length-map last (λ r. r.1) in
        let k = length-map (map (λ r. r.1) last) (cell_at index) in
        ap (λ l. window_of w (cells_in index l)) (up_to_parts a q es (finite.entries_sorted m) lt)
        ∙ ap (λ l. window_of w (cells_of index l)) (map-append (λ r. r.1) first last)
        ∙ ap (window_of w) (map-append (cell_at index) (map (λ r. r.1) first) (map (λ r. r.1) last))
        ∙ window_behind w (cells_in index first) (cells_in index last) (omega arith)

-- a row up to a tag counts
kept : (q : Tag) (r : Tag × List Cell) (rows : Rows) (n : ℕ) → is_below q r.0 ≡ false → n ≤ length (rows_up_to q rows) → n + 1 ≤ length (rows_up_to q (r ∷ rows))
kept q r rows n e h = subst (λ b. n + 1 ≤ length (cond (not b) (r ∷ rows_up_to q rows) (rows_up_to q rows))) (sym e) (omega arith)

-- the first row is not above one that is found
first_low : (q : Tag) (r : Tag × List Cell) (rows : Rows) (y : List Cell) → T (finite.is_sorted tag_cmp (r ∷ rows)) → finite.find tag_cmp q (r ∷ rows) ≡ Some y → is_below q r.0 ≡ false
first_low q r rows y sorted found = by_case (is_below q r.0) refl
  where
    by_case : (b : Bool) → is_below q r.0 ≡ b → is_below q r.0 ≡ false
    by_case true e = let none = find_before q r rows sorted (from_true _ e) in cc (none, found)
    by_case false e = e

-- a row that is found, but not among the first k, stands behind k rows
pub found_far : (rows : Rows) (k : ℕ) (q : Tag) (y : List Cell) → T (finite.is_sorted tag_cmp rows) → finite.find tag_cmp q rows ≡ Some y → finite.find tag_cmp q (take k rows) ≡ None → k + 1 ≤ length (rows_up_to q rows)
found_far [] k q y sorted found near = cc
found_far (r ∷ rows) zero q y sorted found near = kept q r rows 0 (first_low q r rows y sorted found) (omega arith)
found_far (r ∷ rows) (suc k) q y sorted found near = by_case (found_far rows k q y (T-second _ _ sorted)) (eq_by_cmp tag_cmp q r.0) refl
  where
    by_case : (finite.find tag_cmp q rows ≡ Some y → finite.find tag_cmp q (take k rows) ≡ None → k + 1 ≤ length (rows_up_to q rows))
        → (b : Bool) → eq_by_cmp tag_cmp q r.0 ≡ b → suc k + 1 ≤ length (rows_up_to q (r ∷ rows))
    by_case rest true t = let there : finite.find tag_cmp q (take (suc k) (r ∷ rows)) ≡ Some r.1 = ap (λ b. cond b (Some r.1) (finite.find tag_cmp q (take k rows))) t in cc (there, near)
    by_case rest false t =
        let later : finite.find tag_cmp q rows ≡ Some y = sym (ap (λ b. cond b (Some r.1) (finite.find tag_cmp q rows)) t) ∙ found in
        let far : finite.find tag_cmp q (take k rows) ≡ None = sym (ap (λ b. cond b (Some r.1) (finite.find tag_cmp q (take k rows))) t) ∙ near in
        let more = kept q r rows (k + 1) (first_low q r rows y sorted found) (rest later far) in
        omega arith
