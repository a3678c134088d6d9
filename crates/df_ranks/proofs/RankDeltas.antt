-- The delta of a rank, and what it keeps afterwards.
use Rattle.std.proofs.Common.{◌≡◌, ℕ, ◌+◌, ◌≤◌, ◌^◌, Bool, true, false, cond, List, [], ◌∷◌, Option, Some, None, pos, length, map, filter, refl, sym, ap, subst, ◌∙◌, arith}
use Rattle.std.specs.Prelude.{T, ◌||◌, is_some}
use Rattle.std.specs.BTreeMap.{BTreeMap}
use Rattle.std.specs.List.{list_any}
use Rattle.std.specs.Option.{IfSome, option_and_then}
use Rattle.std.specs.Ordering.{eq_by_cmp}
use Rattle.std.specs.FinMap as finite
use Rattle.std.specs.FinMap.{find, is_sorted}
use Rattle.std.proofs.lemmas.List.{length-map}
use Rattle.df_value.specs.CellEq.{cell_eq, cell_eq-Decides}
use Rattle.df_value.specs.CellOrder.{cell_cmp, cell_cmp_total}
use Rattle.df_value.specs.Rows.{cell_at}
use Rattle.df_value.specs.declared.cell.Cell.{Cell}
use Rattle.df_value.specs.declared.cell.Cell.TheVariants as cell
use Rattle.df_value.specs.declared.cell.CellType.{CellType}
use Rattle.df_expr.specs.Value.{is_null}
use Rattle.df_ops.specs.RowWise.{with_column_row}
use Rattle.df_ops.specs.declared.ranks.RankKind.{RankKind}
use Rattle.df_ops.specs.declared.ranks.RankKind.TheVariants as rank
use Rattle.df_column.specs.Changes.{after_changes, applied}
use Rattle.df_column.specs.TagOrder.{tag_total, tag_same}
use Rattle.df_column.specs.Tables.{TaggedRows, entry_change}
use Rattle.df_column.specs.Tags.{tag_cmp}
use Rattle.df_column.specs.declared.entry.Entry.{Entry}
use Rattle.df_column.specs.declared.tag.Tag.{Tag}
use Rattle.df_counts.specs.Counts.{AreCounts, count_change, some_count}
use Rattle.df_counts.proofs.Orders.{cell_same}
use Rattle.df_delta.specs.Deltas.{Changes}
use Rattle.df_delta.specs.Differences.{Fits, IsDiff}
use Rattle.df_delta.specs.Reached.{changes_at, is_reached}
use Rattle.df_delta.proofs.Changes.{after_change, get-applied}
use Rattle.df_delta.proofs.Reached.{reached_diff}
use Rattle.df_ranks.specs.Counts.{RanksStay, counted_rank, is_above, rank_number, weight_below}
use Rattle.df_ranks.specs.Ranked.{rank_of, ranked, with_ranks}
use Rattle.df_ranks.specs.Reach.{Reaches, is_row_above_any, is_value_above}
use Rattle.df_ranks.specs.Rises.{AreRises}
use Rattle.df_ranks.proofs.CountsAfter.{counts_after}
use Rattle.df_ranks.proofs.DenseRanks.{dense_by_counts, some_any}
use Rattle.df_ranks.proofs.Entries.{sorted_after}
use Rattle.df_ranks.proofs.MinRanks.{dense_small, min_by_counts}
use Rattle.df_ranks.proofs.Outputs.{get_ranked, rank_row}

-- the rank by counts is the rank
by_counts : (kind : RankKind) (index : Option ℕ) (c : Cell) (rows : List (List Cell)) (counts : List (Cell × ℕ)) → T (is_sorted cell_cmp counts) → AreCounts counts index rows → length rows ≤ 2 ^ 60
    → rank_of kind index rows c ≡ counted_rank kind counts c
by_counts rank.Dense index c rows counts sorted are few =
    dense_by_counts index c rows counts sorted are ∙ ap (λ n. cond (is_null c) cell.Null (cell.Int (pos (1 + n)))) (dense_small index c rows counts sorted are few)
by_counts rank.Min index c rows counts sorted are few = min_by_counts index c rows counts sorted are few

few_values : (t : TaggedRows) → finite.len t ≤ 2 ^ 60 → length (finite.values t) ≤ 2 ^ 60
few_values t few =
    let l = finite.len-entries t in
    let m = length-map (finite.entries t) (λ e. e.1) in
    omega (arith, l, m, few)

pub rank_law : (columns : List (List ℕ × CellType)) (name : List ℕ) (kind : RankKind) (index : Option ℕ) (t : TaggedRows) (counts : List (Cell × ℕ)) → T (is_sorted cell_cmp counts) → AreCounts counts index (finite.values t) → finite.len t ≤ 2 ^ 60
    → ranked columns name kind index t ≡ with_ranks columns name index (counted_rank kind counts) t
rank_law columns name kind index t counts sorted are few = ap (λ f. with_ranks columns name index f t) (λ i c. by_counts kind index c (finite.values t) counts sorted are (few_values t few) i)

-- a test that a row passes is passed by some row
found_any : (p : List Cell → Bool) (q : Tag) (es : List (Tag × List Cell)) (row : List Cell) → find tag_cmp q es ≡ Some row → p row ≡ true → list_any p (map (λ e. e.1) es) ≡ true
found_any p q [] row e pass = cc e
found_any p q (f ∷ es) row e pass = by_tie (eq_by_cmp tag_cmp q f.0) e (found_any p q es row) where
  or_true : (b : Bool) → (b || true) ≡ true
  or_true true = refl
  or_true false = refl

  by_tie : (b : Bool) → cond b (Some f.1) (find tag_cmp q es) ≡ Some row → (find tag_cmp q es ≡ Some row → p row ≡ true → list_any p (map (λ e. e.1) es) ≡ true) → (p f.1 || list_any p (map (λ e. e.1) es)) ≡ true
  by_tie true e more = let is : f.1 ≡ row = cc e in ap (λ b. b || list_any p (map (λ e. e.1) es)) (ap p is ∙ pass)
  by_tie false e more = ap (λ b. p f.1 || b) (more e pass) ∙ or_true (p f.1)

module _ (columns : List (List ℕ × CellType)) (name : List ℕ) (kind : RankKind) (index : Option ℕ) (t : TaggedRows) (d : Changes) (old new : List (Cell × ℕ))
    (are : AreCounts new index (finite.values (applied t d))) (least : Option Cell) (stay : RanksStay kind old new least) (tags : List Tag) (reach : Reaches tags d (applied t d) index least) where
  -- the value of a row that stands is there in the counts
  counted_there : (q : Tag) (row : List Cell) → finite.get (applied t d) q ≡ Some row → is_null (cell_at index row) ≡ false → is_some (find cell_cmp (cell_at index row) new) ≡ true
  counted_there q row e value =
      ap is_some (are.at (cell_at index row))
      ∙ ap (λ m. is_some (some_count (cond m 0 (length (filter (λ r. cell_eq (cell_at index r) (cell_at index row)) (finite.values (applied t d))))))) value
      ∙ some_any (λ r. cell_eq (cell_at index r) (cell_at index row)) (finite.values (applied t d))
      ∙ found_any (λ r. cell_eq (cell_at index r) (cell_at index row)) q (finite.entries (applied t d)) row (sym (finite.get-entries (applied t d) q) ∙ e) ((cell_eq-Decides (cell_at index row) (cell_at index row)).1 refl)

  not_above : (l : Option Cell) (row : List Cell) → is_null (cell_at index row) ≡ false → is_row_above_any index l row ≡ false → is_above l (cell_at index row) ≡ false
  not_above None row value e = refl
  not_above (Some l) row value e = sym (ap (λ m. is_value_above l (cond m None (Some (cell_at index row)))) value) ∙ e

  same_rank : (q : Tag) (row : List Cell) → finite.get (applied t d) q ≡ Some row → is_row_above_any index least row ≡ false → counted_rank kind old (cell_at index row) ≡ counted_rank kind new (cell_at index row)
  same_rank q row e low = by_null (is_null (cell_at index row)) refl where
    by_null : (m : Bool) → is_null (cell_at index row) ≡ m → counted_rank kind old (cell_at index row) ≡ counted_rank kind new (cell_at index row)
    by_null true v =
        ap (λ m. cond m cell.Null (cell.Int (pos (1 + rank_number (weight_below kind old (cell_at index row)))))) v
        ∙ sym (ap (λ m. cond m cell.Null (cell.Int (pos (1 + rank_number (weight_below kind new (cell_at index row)))))) v)
    by_null false v = ap (λ n. cond (is_null (cell_at index row)) cell.Null (cell.Int (pos (1 + rank_number n)))) (stay.at (cell_at index row) (counted_there q row e v) (not_above least row v low))

  -- outside the tags that are reached the outputs agree
  same_outside : (q : Tag) → is_reached tags q ≡ false → finite.get (with_ranks columns name index (counted_rank kind old) t) q ≡ finite.get (with_ranks columns name index (counted_rank kind new) (applied t d)) q
  same_outside q none =
      get_ranked columns name index (counted_rank kind old) t q
      ∙ ap (option_and_then (rank_row columns name index (counted_rank kind old))) (sym unmoved)
      ∙ by_row (finite.get (applied t d) q) refl (reach.above q none)
      ∙ sym (get_ranked columns name index (counted_rank kind new) (applied t d) q)
    where
      unmoved : finite.get (applied t d) q ≡ finite.get t q
      unmoved = get-applied tag_total tag_same t d q ∙ ap (λ c. after_change c (finite.get t q)) (reach.changed q none)

      by_row : (o : Option (List Cell)) → finite.get (applied t d) q ≡ o → IfSome o (λ row. is_row_above_any index least row ≡ false)
          → option_and_then (rank_row columns name index (counted_rank kind old)) o ≡ option_and_then (rank_row columns name index (counted_rank kind new)) o
      by_row None e low = refl
      by_row (Some row) e low = ap (λ c. Some (with_column_row columns name row c)) (same_rank q row e low)

-- what a prepare makes of a delta that fits
pub record IsPrepared (columns : List (List ℕ × CellType)) (name : List ℕ) (kind : RankKind) (index : Option ℕ) (t : TaggedRows) (d : Changes) (rows : TaggedRows) (counts : List (Cell × ℕ)) (changes : Changes) : Type 0 where
  pub rows_are : rows ≡ applied t d
  pub counts_are : AreCounts counts index (finite.values (applied t d))
  pub diff : IsDiff (ranked columns name kind index t) (ranked columns name kind index (applied t d)) changes

pub prepared : (columns : List (List ℕ × CellType)) (name : List ℕ) (kind : RankKind) (index : Option ℕ) (t : TaggedRows) (d : Changes) (before output : TaggedRows) (old : List (Cell × ℕ)) (es : List Entry) (rises : BTreeMap Cell ℕ)
    (rows : TaggedRows) (new : List (Cell × ℕ)) (least : Option Cell) (tags : List Tag) (changes : Changes)
    → T (is_sorted cell_cmp old) → finite.len t ≤ 2 ^ 60 → before ≡ t → output ≡ ranked columns name kind index t → AreCounts old index (finite.values t) → Fits t d
    → map entry_change es ≡ finite.entries d → AreRises rises index es → T (is_sorted cell_cmp rises.entries)
    → rows ≡ applied before d → finite.len rows ≤ 2 ^ 60 → new ≡ after_changes cell_cmp old (map (count_change old) rises.entries) → RanksStay kind old new least → Reaches tags d rows index least
    → changes ≡ finite.from_sorted (changes_at output (with_ranks columns name index (counted_rank kind new) rows) tags)
    → IsPrepared columns name kind index t d rows new changes
prepared columns name kind index t d before output old es rises rows new least tags changes sorted few is ranks are fits all rise rising made few_now raised stay reach changed = record {
  rows_are = rows_are;
  counts_are = are_now;
  diff =
      subst (λ c. IsDiff (ranked columns name kind index t) (ranked columns name kind index (applied t d)) c) (sym (changed ∙ (λ i. finite.from_sorted (changes_at (ranks i) (output_now i) tags))))
      (reached_diff (ranked columns name kind index t) (ranked columns name kind index (applied t d)) tags reach_now.rising (λ q none.
      ap (λ m. finite.get m q) (rank_law columns name kind index t old sorted are few)
      ∙ same_outside columns name kind index t d old new are_now least stay tags reach_now q none
      ∙ sym (ap (λ m. finite.get m q) law)));
} where
  rows_are : rows ≡ applied t d
  rows_are = made ∙ ap (λ m. applied m d) is

  reach_now : Reaches tags d (applied t d) index least
  reach_now = subst (λ m. Reaches tags d m index least) rows_are reach

  are_now : AreCounts new index (finite.values (applied t d))
  are_now = subst (λ cs. AreCounts cs index (finite.values (applied t d))) (sym raised) (counts_after index t d es old rises all fits few (subst (λ m. finite.len m ≤ 2 ^ 60) rows_are few_now) are rise rising)

  law : ranked columns name kind index (applied t d) ≡ with_ranks columns name index (counted_rank kind new) (applied t d)
  law = rank_law columns name kind index (applied t d) new (subst (λ cs. T (is_sorted cell_cmp cs)) (sym raised) (sorted_after cell_cmp_total cell_same old (map (count_change old) rises.entries) sorted)) are_now (subst (λ m. finite.len m ≤ 2 ^ 60) rows_are few_now)

  output_now : with_ranks columns name index (counted_rank kind new) rows ≡ ranked columns name kind index (applied t d)
  output_now = ap (with_ranks columns name index (counted_rank kind new)) rows_are ∙ sym law
