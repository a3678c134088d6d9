-- Cumulative sums over tagged rows, by their definitions over plain rows, and where a delta changes them.
use Rattle.std.proofs.Common.{◌≡◌, ℕ, ◌+◌, ◌-◌, ◌<◌, ◌≤◌, min, max, List, [], ◌∷◌, length, map, take, drop, filter, get_or, Option, Some, None, IfSome, IfNone, refl, sym, ap, subst, ◌∙◌, arith, length-drop, pos, not}
use Rattle.std.specs.Prelude.{T, ◌-ℤ◌}
use Rattle.std.specs.Cmp.{tied_itself}
use Rattle.std.specs.FinMap as finite
use Rattle.std.proofs.lemmas.List.{drop-map, get_or-drop, length-map, take-map, take_all}
use Rattle.df_value.specs.declared.cell.Cell.{Cell}
use Rattle.df_value.specs.declared.cell.Cell.TheVariants as cell
use Rattle.df_value.specs.declared.cell.CellType.{CellType}
use Rattle.df_value.specs.declared.cell.CellType.TheVariants as dtype
use Rattle.df_value.specs.Rows.{cell_at}
use Rattle.df_value.specs.Schemas.{column_index}
use Rattle.df_ops.specs.Aggregates.{cells_of, sum_of}
use Rattle.df_ops.specs.LoopStates.{cum_sum_after}
use Rattle.df_ops.specs.Places.{places_of}
use Rattle.df_ops.specs.RowWise.{with_column_row}
use Rattle.df_ops.specs.Tables.{cum_sum_table, with_column_table}
use Rattle.df_ops.specs.Windows.{cum_sum_at}
use Rattle.df_ops.specs.declared.places.Place.{Place}
use Rattle.df_ops.proofs.PlacesFacts.{placed_column}
use Rattle.df_column.specs.Bounds.{IsUpperBound, is_below}
use Rattle.df_column.specs.Changes.{Change, applied}
use Rattle.df_column.specs.Places.{IsPlace}
use Rattle.df_column.specs.TagOrder.{tag_total, tag_same}
use Rattle.df_column.specs.Tables.{TaggedRows}
use Rattle.df_column.specs.Tags.{tag_cmp}
use Rattle.df_column.specs.declared.tag.Tag.{Tag}
use Rattle.df_delta.specs.Deltas.{Changes}
use Rattle.df_delta.specs.Differences.{IsDiff}
use Rattle.df_delta.specs.Reached.{changes_at}
use Rattle.df_delta.proofs.Changes.{after_change, get-applied}
use Rattle.df_delta.proofs.Reached.{reached_diff}
use Rattle.df_nodes.specs.Outputs.{summed}
use Rattle.df_nodes.specs.Prefixes.{with_each_prefix}
use Rattle.df_nodes.specs.Rolling.{put_at, reached, reached_by}
use Rattle.df_nodes.specs.Sums.{AreSums, made_output, shift_of, shifted_sum, sum_output, summed_row}
use Rattle.df_nodes.specs.declared.tail_sums.TailSums.{TailSums}
use Rattle.df_nodes.proofs.Bounds.{reached_run}
use Rattle.df_nodes.proofs.Filters.{filter_length}
use Rattle.df_nodes.proofs.PrefixLaws.{prefix_rows}
use Rattle.df_nodes.proofs.PrefixValues.{at_place, no_row, none_at, same_before}
use Rattle.df_nodes.proofs.RisingReach.{rising_reached}
use Rattle.df_nodes.proofs.ShiftedSums.{after_length, shifted_at, unshifted}
use Rattle.df_nodes.proofs.SumStarts.{bound_behind, place_behind}
use Rattle.df_nodes.proofs.TagTests.{not_below_itself}
use Rattle.df_nodes.proofs.Unreached.{IsNear, found_behind, near_parts, same_unreached}
use Rattle.df_nodes.proofs.UpTo.{Rows}

-- the sums, by the names of the schema
pub summed_is : (columns : List (List ℕ × CellType)) (name column : List ℕ) (places : List Place) (index : Option ℕ) → index ≡ column_index column columns → places ≡ places_of columns ((name, dtype.Wide) ∷ [])
    → (t : TaggedRows) → ◌≡◌ {A = TaggedRows} (sum_output places index t) (summed columns name column t)
summed_is columns name column places index is_index at t =
    ap (λ (put : List Cell → Cell → List Cell). with_each_prefix put cum_sum_at index t) (λ j row c. placed_column columns name dtype.Wide row c places at j)
    ∙ (λ j. with_each_prefix (with_column_row columns name) cum_sum_at (is_index j) t)

pub summed_rows : (columns : List (List ℕ × CellType)) (name column : List ℕ) (t : TaggedRows)
    → finite.values (summed columns name column t) ≡ (cum_sum_table (record { columns = columns; rows = finite.values t }) name column).rows
unfolding cum_sum_table with_column_table
summed_rows columns name column t = prefix_rows (with_column_row columns name) cum_sum_at (column_index column columns) t

-- a row behind the start, with its sum
module _ (places : List Place) (index : Option ℕ) (u : TaggedRows) (s : TailSums) (h : AreSums index u s) where
  pub index_inside : (at : ℕ) → s.start ≤ at → at < length (finite.entries u) → (s.start ≤ at) × (at - s.start < length s.rows.items) × (at - s.start < length s.sums.items)
  index_inside at low lt =
      let all = finite.values u in
      let long = length-map (finite.entries u) (λ x. x.1) in
      let later = length-drop s.start all in
      let cells = length-map (drop s.start all) (cell_at index) in
      let a = ap length h.rows_are in
      let b = ap length h.sums_are ∙ after_length s.before (cells_of index (drop s.start all)) in
      (low, omega (arith, low, lt, long, later, a), omega (arith, low, lt, long, later, cells, b))

  sum_here : (at : ℕ) → s.start ≤ at → at < length (finite.entries u) → get_or s.sums.items (at - s.start) cell.Null ≡ shifted_sum (shift_of index u s) (cells_of index (take (at + 1) (finite.values u)))
  sum_here at low lt =
      let all = finite.values u in
      let cells = cells_of index all in
      let long = length-map (finite.entries u) (λ x. x.1) in
      let many = length-map all (cell_at index) in
      ap (λ l. get_or l (at - s.start) cell.Null) (h.sums_are ∙ ap (cum_sum_after s.before) (sym (drop-map (cell_at index) s.start all)))
      ∙ shifted_at s.before cells s.start at low (omega (arith, lt, long, many))
      ∙ (λ i. shifted_sum (s.before -ℤ sum_of (take-map (cell_at index) s.start all i)) (take-map (cell_at index) (at + 1) all i))

  pub place_row : (at : ℕ) (q : Tag) → s.start ≤ at → IsPlace tag_cmp (finite.entries u) q at → summed_row places s (Some at) ≡ finite.get (made_output places index u s) q
  place_row at q low p =
      let all = finite.values u in
      let place : s.start + (at - s.start) ≡ at = omega (arith, low) in
      let row : get_or s.rows.items (at - s.start) [] ≡ get_or all at [] = ap (λ l. get_or l (at - s.start) []) h.rows_are ∙ get_or-drop s.start all (at - s.start) [] ∙ ap (λ n. get_or all n []) place in
      (λ i. Some (put_at places (row i) (sum_here at low p.in_range i)))
      ∙ sym (at_place (put_at places) (shifted_sum (shift_of index u s)) index u at q p)

  pub tagged_row : (at : ℕ) (q : Tag) → s.start ≤ at → at < length (finite.entries u) → ((d : Tag × List Cell) → q ≡ (get_or (finite.entries u) at d).0) → summed_row places s (Some at) ≡ finite.get (made_output places index u s) q
  tagged_row at q low lt is = place_row at q low (record { in_range = lt; here = λ d. ap (λ k. tag_cmp k q) (sym (is d)) ∙ tied_itself tag_total q })

  module _ (q : Tag) (behind : T (not (is_below q s.first))) where
    pub found_inside : (o : Option ℕ) → IfSome o (IsPlace tag_cmp (finite.entries u) q) → IfSome o (λ i. (s.start ≤ i) × (i - s.start < length s.rows.items) × (i - s.start < length s.sums.items))
    found_inside None p = tt
    found_inside (Some at) p = index_inside at (place_behind (finite.entries u) s.first s.start h.front q behind at p) p.in_range

    pub found_row : (o : Option ℕ) → IfSome o (IsPlace tag_cmp (finite.entries u) q) → IfNone o (finite.get u q ≡ None) → summed_row places s o ≡ finite.get (made_output places index u s) q
    found_row None p none = sym (no_row (put_at places) (shifted_sum (shift_of index u s)) index u q none)
    found_row (Some at) p none = place_row at q (place_behind (finite.entries u) s.first s.start h.front q behind at p) p

  pub start_behind : (q : Tag) (from : ℕ) → T (not (is_below q s.first)) → IsUpperBound q (finite.entries u) from → s.start ≤ from
  start_behind q from behind bound = bound_behind (finite.entries u) s.first s.start h.front q behind from h.within bound

-- with sums that begin right it is the output
pub made_is : (places : List Place) (index : Option ℕ) (u : TaggedRows) (s : TailSums) → shift_of index u s ≡ pos 0 → made_output places index u s ≡ sum_output places index u
made_is places index u s e = ap (λ (f : List Cell → Cell). with_each_prefix (put_at places) f index u) (unshifted (shift_of index u s) e)

-- a change reaches all rows behind it, up to the next one
pub reached_rest : (q : Tag) (rows : Rows) (from stop : ℕ) → IsUpperBound q rows from → stop ≤ length rows
    → reached_by (length rows + 1) q (take stop rows) ≡ q ∷ map (λ r. r.0) (drop from (take (max from stop) rows))
reached_rest q rows from stop h le =
    let within = h.within in
    let e : from + min (stop - from) (length rows + 1 - 1) ≡ max from stop = omega arith in
    reached_run (length rows + 1) q rows from stop h ∙ ap (λ n. q ∷ map (λ r. r.0) (drop from (take n rows))) e

module _ (places : List Place) (index : Option ℕ) where
  module _ (t u : TaggedRows) where
    abbrev Same : Tag → Type 0
    Same q = finite.get (sum_output places index t) q ≡ finite.get (sum_output places index u) q

    -- behind a change no row is left that it does not reach
    near : (a q : Tag) (rows : Rows) → IsNear (length (finite.entries u) + 1) t u a q rows → Same q
    near a q rows h = by_row (finite.get u q) refl
      where
        lt : T (is_below a q)
        lt = (near_parts h).0

        by_row : (o : Option (List Cell)) → finite.get u q ≡ o → Same q
        by_row None e = none_at (put_at places) cum_sum_at index t u q (h.same q lt (not_below_itself q) ∙ e) e
        by_row (Some y) e =
            let later = filter (λ x. is_below a x.0) rows in
            let n = length (finite.entries u) + 1 - 1 in
            let fewer = filter_length (λ x. is_below a x.0) rows in
            let few = h.few in
            let here : finite.find tag_cmp q (take n later) ≡ Some y = ap (finite.find tag_cmp q) (take_all n later (omega arith)) ∙ found_behind h y e lt in
            let gone : finite.find tag_cmp q (take n later) ≡ None = (near_parts h).1 in
            cc (here, gone)

  module _ (t : TaggedRows) (d : Changes) where
    leads : IsDiff (sum_output places index t) (sum_output places index (applied t d))
        (finite.from_sorted (changes_at (sum_output places index t) (sum_output places index (applied t d)) (reached (length (finite.entries (applied t d)) + 1) (finite.entries (applied t d)) (finite.entries d))))
    leads =
        let u = applied t d in
        let notes = finite.entries d in
        let w = length (finite.entries u) + 1 in
        reached_diff (sum_output places index t) (sum_output places index u) (reached w (finite.entries u) notes)
        (rising_reached w (finite.entries u) notes (finite.entries_sorted u) (finite.entries_sorted d))
        (same_unreached w t u (Same t u) (same_before (put_at places) cum_sum_at index t u) (near t u) notes (finite.entries_sorted d)
        (λ x none. sym (get-applied tag_total tag_same t d x ∙ ap (λ c. after_change c (finite.get t x)) (finite.get-entries d x ∙ none))))

    pub sum_diff : (old u : TaggedRows) (notes : List (Tag × Change (List Cell))) → notes ≡ finite.entries d → old ≡ sum_output places index t → u ≡ applied t d
        → IsDiff (sum_output places index t) (sum_output places index (applied t d)) (finite.from_sorted (changes_at old (sum_output places index u) (reached (length (finite.entries u) + 1) (finite.entries u) notes)))
    sum_diff old u notes e f g =
        let Leads = IsDiff (sum_output places index t) (sum_output places index (applied t d)) in
        subst (λ l. Leads (finite.from_sorted (changes_at old (sum_output places index u) (reached (length (finite.entries u) + 1) (finite.entries u) l)))) (sym e)
        (subst (λ o. Leads (finite.from_sorted (changes_at o (sum_output places index u) (reached (length (finite.entries u) + 1) (finite.entries u) (finite.entries d))))) (sym f)
        (subst (λ m. Leads (finite.from_sorted (changes_at (sum_output places index t) (sum_output places index m) (reached (length (finite.entries m) + 1) (finite.entries m) (finite.entries d))))) (sym g) leads))
