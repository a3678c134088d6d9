-- Totals follow the changes of rows.
use Rattle.std.proofs.Common.{◌≡◌, ℕ, pos, ◌+ℤ◌, ◌+◌, List, [], ◌∷◌, ◌++◌, map, length, take, get_or, ◌<◌, Option, Some, None, refl, sym, ap, subst, ◌∙◌}
use Rattle.std.specs.Prelude.{ℤ, ◌-ℤ◌, ◌&&◌, IfSome, cond, fold, not}
use Rattle.std.specs.FinMap as finite
use Rattle.std.proofs.lemmas.List.{get_or-map, length-map}
use Rattle.df_value.specs.declared.cell.Cell.{Cell}
use Rattle.df_value.specs.declared.cell.CellType.{CellType}
use Rattle.df_value.specs.Rows.{cell_at}
use Rattle.df_column.specs.Changes.{Change, applied}
use Rattle.df_column.specs.TagOrder.{tag_total, tag_same}
use Rattle.df_column.specs.Tables.{TaggedRows, entry_change}
use Rattle.df_column.specs.declared.entry.Entry.{Entry}
use Rattle.df_column.specs.declared.tag.Tag.{Tag}
use Rattle.df_delta.specs.Deltas.{Changes}
use Rattle.df_delta.specs.Differences.{Fits}
use Rattle.df_ops.specs.Aggregates.{cells_of, count_of}
use Rattle.df_counts.specs.Counts.{value_in}
use Rattle.df_ops.specs.LoopStates.{min_or_max_with}
use Rattle.df_ops.specs.declared.agg.Agg.{Agg}
use Rattle.df_ops.specs.declared.min_max.MinMax.{MinMax}
use Rattle.df_ops.proofs.AggregateLaws.{count_is_count, sum_is_sum}
use Rattle.df_ops.proofs.Steps.{mapped_more}
use Rattle.df_group.specs.GroupIndex.{totals_of}
use Rattle.df_group.specs.Totals.{HaveValuesOf, Lead, alone, extreme_after, extreme_after_entry, extreme_of_rows, is_as_good, may_be_best, value_of, sums_after, sums_after_entry, sums_of, total_for, total_of, totals_over, values_of}
use Rattle.df_group.specs.declared.grouping.Grouping.{Grouping}
use Rattle.df_group.specs.declared.sums.Sums.{Sums}
use Rattle.df_group.specs.declared.total.Total.{Total}
use Rattle.df_group.proofs.CountedChanges.{counts_applied}
use Rattle.df_group.proofs.RowExtremes.{best_after, best_after_all, extreme_applied, part as extreme_part, row_extreme, row_extreme_is}
use Rattle.df_group.proofs.RowSums.{part, row_sum, sum_after, sum_applied}

-- what a row adds to the count, and to the sum
abbrev one_of : Option ℕ → List Cell → ℤ
one_of index row = (sums_of index (row ∷ [])).count

abbrev number_in : Option ℕ → List Cell → ℤ
number_in index row = (sums_of index (row ∷ [])).sum

count_alone : (index : Option ℕ) (row : Option (List Cell)) → (sums_of index (alone row)).count ≡ part (one_of index) row
count_alone index None = refl
count_alone index (Some row) = refl

sum_alone : (index : Option ℕ) (row : Option (List Cell)) → (sums_of index (alone row)).sum ≡ part (number_in index) row
sum_alone index None = refl
sum_alone index (Some row) = refl

-- the count and the sum of all rows
count_is : (index : Option ℕ) (es : List (Tag × List Cell)) → (sums_of index (map (λ e. e.1) es)).count ≡ row_sum (one_of index) es
count_is index [] = refl
count_is index (e ∷ es) =
    let parts : count_of (cells_of index (e.1 ∷ map (λ e. e.1) es)) ≡ count_of (cell_at index e.1 ∷ []) + count_of (cells_of index (map (λ e. e.1) es)) =
    count_is_count.of_parts (cell_at index e.1 ∷ []) (cells_of index (map (λ e. e.1) es)) in
    let rest = count_is index es in
    ap pos parts ∙ ap (λ n. one_of index e.1 +ℤ n) rest

sum_is : (index : Option ℕ) (es : List (Tag × List Cell)) → (sums_of index (map (λ e. e.1) es)).sum ≡ row_sum (number_in index) es
sum_is index [] = refl
sum_is index (e ∷ es) =
    sum_is_sum.of_parts (cell_at index e.1 ∷ []) (cells_of index (map (λ e. e.1) es))
    ∙ ap (λ n. number_in index e.1 +ℤ n) (sum_is index es)

-- a count and a sum after these changes
abbrev count_after : Option ℕ → ℤ → List (Tag × Change (List Cell)) → ℤ
count_after index n es = fold (λ n e. sum_after (one_of index) n e.1) n es

abbrev sum_after_all : Option ℕ → ℤ → List (Tag × Change (List Cell)) → ℤ
sum_after_all index n es = fold (λ n e. sum_after (number_in index) n e.1) n es

-- the numbers of sums move on their own
abbrev made_of : Option ℕ → ℤ → ℤ → Sums
made_of index count sum = record { index = index; count = count; sum = sum }

numbers_after : (index : Option ℕ) (count sum : ℤ) (entries : List Entry) → sums_after (made_of index count sum) entries ≡ made_of index (count_after index count (map entry_change entries)) (sum_after_all index sum (map entry_change entries))
numbers_after index count sum [] = refl
numbers_after index count sum (e ∷ es) =
    let step : sums_after_entry (made_of index count sum) e ≡ made_of index (sum_after (one_of index) count (entry_change e).1) (sum_after (number_in index) sum (entry_change e).1) =
    λ i. made_of index ((count -ℤ count_alone index e.old i) +ℤ count_alone index e.new i) ((sum -ℤ sum_alone index e.old i) +ℤ sum_alone index e.new i) in
    ap (λ s. sums_after s es) step
    ∙ numbers_after index (sum_after (one_of index) count (entry_change e).1) (sum_after (number_in index) sum (entry_change e).1) es

-- the least or greatest cell moves as by the changes
abbrev part_of : MinMax → Option ℕ → Option (List Cell) → Option Cell
part_of m index row = extreme_part m (λ row. value_in (cell_at index row)) row

value_is : (m : MinMax) (index : Option ℕ) (row : Option (List Cell)) → value_of index row ≡ part_of m index row
value_is m index None = refl
value_is m index (Some row) = refl

entry_moves : (m : MinMax) (index : Option ℕ) (best : Option (Option Cell)) (e : Entry) → extreme_after_entry m index best e ≡ best_after m (λ row. value_in (cell_at index row)) best (entry_change e).1
entry_moves m index None e = refl
entry_moves m index (Some best) e = λ i. cond (may_be_best m best (value_is m index e.old i) && not (is_as_good m best (value_is m index e.new i))) None (Some (min_or_max_with m best (value_is m index e.new i)))

extreme_moves : (m : MinMax) (index : Option ℕ) (best : Option (Option Cell)) (entries : List Entry)
    → fold (extreme_after_entry m index) best entries ≡ best_after_all m (λ row. value_in (cell_at index row)) best (map entry_change entries)
extreme_moves m index best [] = refl
extreme_moves m index best (e ∷ es) =
    ap (λ b. fold (extreme_after_entry m index) b es) (entry_moves m index best e)
    ∙ extreme_moves m index (best_after m (λ row. value_in (cell_at index row)) best (entry_change e).1) es

-- entries that fit lead the totals of the rows to those of the rows afterwards
pub lead_applied : (t : TaggedRows) (d : Changes) (entries : List Entry) → map entry_change entries ≡ finite.entries d → Fits t d → Lead (finite.values t) entries (finite.values (applied t d))
lead_applied t d entries e fits = record {
  sums = λ index.
      let count : count_after index (sums_of index (finite.values t)).count (map entry_change entries) ≡ (sums_of index (finite.values (applied t d))).count =
      (λ i. count_after index (count_is index (finite.entries t) i) (e i))
      ∙ sum_applied tag_total tag_same (one_of index) t d fits
      ∙ sym (count_is index (finite.entries (applied t d))) in
      let sum : sum_after_all index (sums_of index (finite.values t)).sum (map entry_change entries) ≡ (sums_of index (finite.values (applied t d))).sum =
      (λ i. sum_after_all index (sum_is index (finite.entries t) i) (e i))
      ∙ sum_applied tag_total tag_same (number_in index) t d fits
      ∙ sym (sum_is index (finite.entries (applied t d))) in
      numbers_after index (sums_of index (finite.values t)).count (sums_of index (finite.values t)).sum entries
      ∙ (λ i. made_of index (count i) (sum i));
  counts = λ index. counts_applied index t d entries e fits;
  extremes = λ m index.
      let value : List Cell → Option Cell = λ row. value_in (cell_at index row) in
      let start = row_extreme_is m (cell_at index) (finite.entries t) in
      let end = row_extreme_is m (cell_at index) (finite.entries (applied t d)) in
      let moved : extreme_after m index (extreme_of_rows m index (finite.values t)) entries ≡ best_after_all m value (Some (row_extreme m value (finite.entries t))) (finite.entries d) =
      extreme_moves m index (Some (extreme_of_rows m index (finite.values t))) entries
      ∙ (λ i. best_after_all m value (Some (start i)) (e i)) in
      subst (λ found. IfSome found (λ best. best ≡ extreme_of_rows m index (finite.values (applied t d)))) (sym moved)
      (subst (λ last. IfSome (best_after_all m value (Some (row_extreme m value (finite.entries t))) (finite.entries d)) (λ best. best ≡ last)) (sym end)
      (extreme_applied m tag_total tag_same value t d fits));
}

-- the totals of a grouping, over other rows
over_others : (columns : List (List ℕ × CellType)) (aggs : List (List ℕ × Agg)) (old new : List (List Cell))
    → totals_over (map (λ a. total_for columns a.1 old) aggs) new ≡ map (λ a. total_for columns a.1 new) aggs
over_others columns [] old new = refl
over_others columns (a ∷ aggs) old new = ap (λ ts. total_for columns a.1 new ∷ ts) (over_others columns aggs old new)

pub totals_over_others : (g : Grouping) (old new : List (List Cell)) → totals_over (totals_of g old) new ≡ totals_of g new
totals_over_others g old new = over_others g.members.schema g.aggregates old new

-- totals of the rows before, moved, are those of the rows afterwards
pub totals_moved : (g : Grouping) (totals moved : List Total) (old new : List (List Cell)) → totals ≡ totals_of g old → (totals ≡ totals_over totals old → moved ≡ totals_over totals new) → moved ≡ totals_of g new
totals_moved g totals moved old new e follows =
    follows (e ∙ sym (totals_over_others g old old) ∙ ap (λ ts. totals_over ts old) (sym e))
    ∙ ap (λ ts. totals_over ts new) e
    ∙ totals_over_others g old new

-- one of the totals
one_total : (totals : List Total) (i : ℕ) (x : Total) (old : List (List Cell)) → i < length totals → x ≡ get_or totals i x → totals ≡ totals_over totals old → x ≡ total_of x.sums.index x.values.index old
one_total totals i x old lt is e =
    is
    ∙ ap (λ ts. get_or ts i x) e
    ∙ get_or-map (λ t. total_of t.sums.index t.values.index old) totals i x x lt
    ∙ ap (λ t. total_of t.sums.index t.values.index old) (sym is)

-- totals of some rows have the counts of their values
have_values : (totals : List Total) (rows : List (List Cell)) → HaveValuesOf (totals_over totals rows) rows
have_values totals rows = record {
  each = λ k d lt.
      subst (λ t. t.values ≡ values_of t.values.index rows)
      (sym (get_or-map (λ t. total_of t.sums.index t.values.index rows) totals k d d (subst (λ n. k < n) (length-map totals (λ t. total_of t.sums.index t.values.index rows)) lt)))
      refl;
}

-- one total more is moved, beside those that are
pub one_moved : (totals moved beside more : List Total) (i : ℕ) (x t : Total) (old new : List (List Cell)) → i < length totals → x ≡ get_or totals i x → totals ≡ totals_over totals old
    → (x ≡ total_of x.sums.index x.values.index old → HaveValuesOf beside new → t ≡ total_of x.sums.index x.values.index new) → beside ≡ moved → moved ≡ totals_over (take i totals) new → more ≡ moved ++ t ∷ []
    → more ≡ totals_over (take (i + 1) totals) new
one_moved totals moved beside more i x t old new lt here own made same so_far pushed =
    mapped_more (λ t. total_of t.sums.index t.values.index new) totals i moved more x t lt here so_far
    (made (one_total totals i x old lt here own) (subst (λ ts. HaveValuesOf ts new) (sym (same ∙ so_far)) (have_values (take i totals) new)))
    pushed
