-- Where sums that are made anew begin: behind rows that no change touches.
use Rattle.std.proofs.Common.{◌≡◌, ℕ, zero, suc, ◌+◌, ◌^◌, ◌<◌, ◌≤◌, pos, Bool, true, false, not, List, [], ◌∷◌, length, map, take, drop, get_or, Option, Some, None, Result, Ok, Err, ◌⊎◌, inl, inr, refl, sym, ap, subst, ◌∙◌, arith}
use Rattle.std.specs.Prelude.{IfOk, T, ℤ, ◌-ℤ◌, ◌≤ℤ◌, slice_get, unwrap_or}
use Rattle.std.specs.Cmp.{tied_itself}
use Rattle.std.specs.List.{list_all}
use Rattle.std.specs.Option.{IfSome, option_map}
use Rattle.std.specs.FinMap as finite
use Rattle.std.proofs.Math.IntN.{+ℤ-neg_ℤ_cancel, +ℤ_idl}
use Rattle.std.proofs.lemmas.Bool.{cases_lt}
use Rattle.std.proofs.lemmas.Int.{ints}
use Rattle.std.proofs.lemmas.List.{length-map, take-map}
use Rattle.std.proofs.lemmas.Option.{slice_get-map}
use Rattle.df_value.specs.declared.cell.Cell.{Cell}
use Rattle.df_value.specs.declared.cell.Cell.TheVariants as cell
use Rattle.df_value.specs.Rows.{cell_at}
use Rattle.df_ops.specs.Aggregates.{cells_of, sum_of}
use Rattle.df_ops.specs.Places.{placed_cell}
use Rattle.df_ops.specs.Windows.{cum_sum_at}
use Rattle.df_ops.specs.declared.places.Origin.TheVariants as origin
use Rattle.df_ops.specs.declared.places.Place.{Place}
use Rattle.df_column.specs.Bounds.{IsUpperBound, is_below}
use Rattle.df_column.specs.Changes.{applied}
use Rattle.df_column.specs.Places.{IsPlace}
use Rattle.df_column.specs.TagOrder.{tag_total, tag_same}
use Rattle.df_column.specs.Tables.{TaggedRows, entry_change}
use Rattle.df_column.specs.Tags.{tag_cmp}
use Rattle.df_column.specs.declared.entry.Entry.{Entry}
use Rattle.df_column.specs.declared.tag.Tag.{Tag}
use Rattle.df_delta.specs.Deltas.{Changes}
use Rattle.df_delta.proofs.Changes.{after_change, get-applied}
use Rattle.df_delta.proofs.Collected.{T-first, T-second}
use Rattle.df_nodes.specs.Rolling.{put_at}
use Rattle.df_nodes.specs.Sums.{HasSumsBefore, cell_in, first_tag, sum_output, sum_to}
use Rattle.df_nodes.proofs.PrefixValues.{at_place, same_before}
use Rattle.df_nodes.proofs.ShiftedSums.{null_sum, wide_sum}
use Rattle.df_nodes.proofs.TagTests.{all_above, below_trans, find_before, not_back, not_below_itself, up_to_below}
use Rattle.df_nodes.proofs.UpTo.{Rows}

-- what all of the first pass one of them passes
all_first : {X : Type 0} (p : X → Bool) (xs : List X) (n i : ℕ) (d : X) → i < n → i < length xs → T (list_all p (take n xs)) → T (p (get_or xs i d))
all_first p [] n i d h lt all = absurd (omega arith)
all_first p (x ∷ xs) zero i d h lt all = absurd (omega arith)
all_first p (x ∷ xs) (suc n) zero d h lt all = T-first (p x) _ all
all_first p (x ∷ xs) (suc n) (suc i) d h lt all = all_first p xs n i d (omega arith) (omega arith) (T-second (p x) _ all)

all_behind : {X : Type 0} (p : X → Bool) (xs : List X) (n i : ℕ) (d : X) → n ≤ i → i < length xs → T (list_all p (drop n xs)) → T (p (get_or xs i d))
all_behind p [] n i d h lt all = absurd (omega arith)
all_behind p (x ∷ xs) zero zero d h lt all = T-first (p x) _ all
all_behind p (x ∷ xs) zero (suc i) d h lt all = all_behind p xs zero i d (omega arith) (omega arith) (T-second (p x) _ all)
all_behind p (x ∷ xs) (suc n) zero d h lt all = absurd (omega arith)
all_behind p (x ∷ xs) (suc n) (suc i) d h lt all = all_behind p xs n i d (omega arith) (omega arith) all

both : {P : Type 0} (b : Bool) → T b → T (not b) → P
both true h k = absurd k
both false h k = absurd h

no_row : Tag × List Cell
no_row = (record { first = 0; second = 0; third = 0 }, [])

module _ (rows : Rows) (first : Tag) (start : ℕ) (front : T (list_all (λ r. is_below r.0 first) (take start rows))) (q : Tag) (behind : T (not (is_below q first))) where
  -- a tag that is not below the first stands behind all of these
  pub place_behind : (i : ℕ) → IsPlace tag_cmp rows q i → start ≤ i
  place_behind i p = by_case (cases_lt i start) where
    by_case : (i < start) ⊎ (start ≤ i) → start ≤ i
    by_case (inl lt) =
        let low : T (is_below (get_or rows i no_row).0 first) = all_first (λ r. is_below r.0 first) rows start i no_row lt p.in_range front in
        both (is_below q first) (subst (λ t. T (is_below t first)) (tag_same _ q (p.here no_row)) low) behind
    by_case (inr le) = le

  pub bound_behind : (from : ℕ) → start ≤ length rows → IsUpperBound q rows from → start ≤ from
  bound_behind from within h = by_case (cases_lt from start) where
    by_case : (from < start) ⊎ (start ≤ from) → start ≤ from
    by_case (inl lt) =
        let low : T (is_below (get_or rows from no_row).0 first) = all_first (λ r. is_below r.0 first) rows start from no_row lt (omega (arith, lt, within)) front in
        let high : T (is_below q (get_or rows from no_row).0) = all_behind (λ r. is_below q r.0) rows from from no_row (omega arith) (omega (arith, lt, within)) h.after in
        both (is_below q first) (below_trans q _ first high low) behind
    by_case (inr le) = le

-- no entry's tag is below the first one's
pub not_before : (es : List Entry) (at : ℕ) (x : Entry) → at < length es → T (finite.is_sorted tag_cmp (map entry_change es)) → T (not (is_below (get_or es at x).tag (first_tag es)))
not_before [] at x lt sorted = absurd (omega arith)
not_before (e ∷ es) zero x lt sorted = not_below_itself e.tag
not_before (e ∷ es) (suc at) x lt sorted = not_back e.tag (get_or es at x).tag (one es at (omega arith) (all_above e.tag (map entry_change es) (T-first _ _ sorted))) where
  one : (es : List Entry) (at : ℕ) → at < length es → T (list_all (λ c. is_below e.tag c.0) (map entry_change es)) → T (is_below e.tag (get_or es at x).tag)
  one [] at lt all = absurd (omega arith)
  one (f ∷ es) zero lt all = T-first (is_below e.tag f.tag) _ all
  one (f ∷ es) (suc at) lt all = one es at (omega arith) (T-second (is_below e.tag f.tag) _ all)

-- below the first change nothing changes
module _ (places : List Place) (index : Option ℕ) (t : TaggedRows) (d : Changes) (es : List Entry) (whole : map entry_change es ≡ finite.entries d) where
  unchanged : (x : Tag) → T (is_below x (first_tag es)) → finite.get t x ≡ finite.get (applied t d) x
  unchanged x low = sym (get-applied tag_total tag_same t d x ∙ ap (λ c. after_change c (finite.get t x)) (finite.get-entries d x ∙ ap (finite.find tag_cmp x) (sym whole) ∙ none es low (subst (λ l. T (finite.is_sorted tag_cmp l)) (sym whole) (finite.entries_sorted d)))) where
    none : (es : List Entry) → T (is_below x (first_tag es)) → T (finite.is_sorted tag_cmp (map entry_change es)) → finite.find tag_cmp x (map entry_change es) ≡ None
    none [] low sorted = refl
    none (e ∷ es) low sorted = find_before x (entry_change e) (map entry_change es) sorted low

  pub sums_before : (output u : TaggedRows) → output ≡ sum_output places index t → u ≡ applied t d → HasSumsBefore places index output u (first_tag es)
  sums_before output u is after = record {
    at = λ q low.
        ap (λ m. finite.get m q) is
        ∙ same_before (put_at places) cum_sum_at index t (applied t d) q (λ x up. unchanged x (up_to_below x q (first_tag es) up low))
        ∙ ap (λ m. finite.get (sum_output places index m) q) (sym after);
  }

-- the sum in a row of the output
placed : (places : List Place) (row : List Cell) (c : Cell) (place : ℕ) → slice_get places place ≡ Some (record { origin = origin.Added; index = 0 }) → cell_at (Some place) (put_at places row c) ≡ c
placed places row c place is = ap (λ o. unwrap_or o cell.Null) (slice_get-map (placed_cell row (c ∷ [])) places place ∙ ap (option_map (placed_cell row (c ∷ []))) is)

module _ (places : List Place) (index : Option ℕ) (output u : TaggedRows) (first : Tag) (start : ℕ) (within : start ≤ length (finite.entries u)) (front : T (list_all (λ r. is_below r.0 first) (take start (finite.entries u))))
    (has : HasSumsBefore places index output u first) (place : ℕ) (is_place : slice_get places place ≡ Some (record { origin = origin.Added; index = 0 })) where
  all : List Cell
  all = cells_of index (finite.values u)

  old_cell : (at : ℕ) (q : Tag) → at < start → ((d : Tag × List Cell) → q ≡ (get_or (finite.entries u) at d).0) → cell_in place (finite.get output q) ≡ cum_sum_at (take (at + 1) (cells_of index (finite.values u)))
  old_cell at q lt is =
      let low : T (is_below q first) = subst (λ t. T (is_below t first)) (sym (is no_row)) (all_first (λ r. is_below r.0 first) (finite.entries u) start at no_row lt (omega (arith, lt, within)) front) in
      let here : IsPlace tag_cmp (finite.entries u) q at = record { in_range = omega (arith, lt, within); here = λ d. ap (λ k. tag_cmp k q) (sym (is d)) ∙ tied_itself tag_total q } in
      ap (cell_in place) (has.at q low ∙ at_place (put_at places) cum_sum_at index u at q here)
      ∙ placed places _ (cum_sum_at (cells_of index (take (at + 1) (finite.values u)))) place is_place
      ∙ ap cum_sum_at (sym (take-map (cell_at index) (at + 1) (finite.values u)))

  cells_long : (at : ℕ) → at < start → at < length (cells_of index (finite.values u))
  cells_long at lt =
      let m = length-map (finite.entries u) (λ e. e.1) in
      let n = length-map (finite.values u) (cell_at index) in
      omega (arith, lt, within, m, n)

  to_cells : (n : ℕ) → sum_to index u n ≡ sum_of (take n (cells_of index (finite.values u)))
  to_cells n = ap sum_of (sym (take-map (cell_at index) n (finite.values u)))

  -- a null leaves the sum as it was
  pub past_null : (at : ℕ) (q : Tag) (c : Cell) → at < start → ((d : Tag × List Cell) → q ≡ (get_or (finite.entries u) at d).0) → c ≡ cell_in place (finite.get output q) → c ≡ cell.Null → sum_to index u at ≡ sum_to index u (at + 1)
  past_null at q c lt is own null =
      to_cells at ∙ null_sum (cells_of index (finite.values u)) at (cells_long at lt) (sym (old_cell at q lt is) ∙ sym own ∙ null) ∙ sym (to_cells (at + 1))

  -- and a sum is the sum
  pub at_sum : (at : ℕ) (q : Tag) (c : Cell) (s : ℤ) → at < start → ((d : Tag × List Cell) → q ≡ (get_or (finite.entries u) at d).0) → c ≡ cell_in place (finite.get output q) → c ≡ cell.Wide s → sum_to index u (at + 1) ≡ s
  at_sum at q c s lt is own sum = to_cells (at + 1) ∙ wide_sum (take (at + 1) (cells_of index (finite.values u))) s (sym (old_cell at q lt is) ∙ sym own ∙ sum)

-- a sum that was read, and is none that no rows can have
pub was_read : (o : Option ℤ) (n before : ℤ) → before ≡ unwrap_or o (pos 170141183460469231731687303715884105727) → before ≤ℤ pos (2 ^ 123) → IfSome o (λ s. s ≡ n) → before ≡ n
was_read None n before is small read = absurd (too_great (subst (λ b. b ≤ℤ pos (2 ^ 123)) is small)) where
  too_great : pos 170141183460469231731687303715884105727 ≤ℤ pos (2 ^ 123) → ⊥
  too_great h = omega (arith, ints, h)
was_read (Some s) n before is small read = is ∙ read

-- what is said of a value that may be there, and what follows of it
pub if_some : {A : Type 0} (o : Option A) (P Q : A → Type 0) → IfSome o P → ((x : A) → P x → Q x) → IfSome o Q
if_some None P Q h f = tt
if_some (Some x) P Q h f = f x h

pub if_ok : {A E : Type 0} (r : Result A E) (P Q : A → Type 0) → IfOk r P → ((x : A) → P x → Q x) → IfOk r Q
if_ok (Ok x) P Q h f = f x h
if_ok (Err e) P Q h f = tt

pub no_shift : (before n : ℤ) → before ≡ n → before -ℤ n ≡ pos 0
no_shift before n e = ap (λ b. b -ℤ n) (e ∙ sym (+ℤ_idl n)) ∙ +ℤ-neg_ℤ_cancel (pos 0) n
