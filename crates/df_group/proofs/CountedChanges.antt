-- Counts by value follow a delta of the rows.
use Rattle.std.proofs.Common.{◌≡◌, ℕ, ℤ, pos, ◌+ℤ◌, ◌+◌, List, [], ◌∷◌, Option, Some, None, map, refl, sym, ap, subst, ◌∙◌, arith}
use Rattle.std.specs.Prelude.{T, fold}
use Rattle.std.specs.Option.{IfSome}
use Rattle.std.specs.FinMap.Entries.{below_all}
use Rattle.std.specs.FinMap.{get, insert, remove, entries, entries_sorted, values, is_sorted, find, get-entries}
use Rattle.std.proofs.lemmas.Int.{ints}
use Rattle.df_value.specs.declared.cell.Cell.{Cell}
use Rattle.df_column.specs.Changes.{Change, set_at, applied_list, applied}
use Rattle.df_column.specs.TagOrder.{tag_total, tag_same}
use Rattle.df_column.specs.Tables.{TaggedRows, entry_change}
use Rattle.df_column.specs.Tags.{tag_cmp}
use Rattle.df_column.specs.declared.entry.Entry.{Entry}
use Rattle.df_column.specs.declared.tag.Tag.{Tag}
use Rattle.df_counts.specs.Counts.{value_count}
use Rattle.df_delta.specs.Deltas.{Changes}
use Rattle.df_delta.specs.Differences.{Fits}
use Rattle.df_column.proofs.Bools.{T-second}
use Rattle.df_group.specs.Totals.{counts_after, counts_of, value_of, with_row, without_row}
use Rattle.df_group.proofs.RowSums.{fits_first, fits_later, part, row_sum, sum_insert, sum_remove}
use Rattle.df_group.proofs.ValueCounts.{HasCounts, counts_have, no_rows, one, row_less, row_more, same_counts, value_more}

-- what a row adds to the number of rows of a value
abbrev adds : Option ℕ → Cell → List Cell → ℤ
adds index v row = pos (one (value_of index (Some row)) v)

count_is_sum : (index : Option ℕ) (v : Cell) (es : List (Tag × List Cell)) → pos (value_count index (map (λ e. e.1) es) v) ≡ row_sum (adds index v) es
count_is_sum index v [] = ap pos (no_rows index v)
count_is_sum index v (e ∷ es) = let rest = count_is_sum index v es in ap pos (value_more index e.1 (map (λ e. e.1) es) v) ∙ ap (λ n. adds index v e.1 +ℤ n) rest

part_is : (index : Option ℕ) (v : Cell) (o : Option (List Cell)) → part (adds index v) o ≡ pos (one (value_of index o) v)
part_is index v None = refl
part_is index v (Some row) = refl

-- how many rows of a value there are without the row at a tag
rows_without : (index : Option ℕ) (t : TaggedRows) (k : Tag) (a : Option (List Cell)) (v : Cell) → get t k ≡ a → value_count index (values t) v ≡ value_count index (values (remove t k)) v + one (value_of index a) v
rows_without index t k a v is =
    let all = count_is_sum index v (entries t) in
    let rest = count_is_sum index v (entries (remove t k)) in
    let gone = sum_remove tag_total tag_same (adds index v) t k a is in
    let part = part_is index v a in
    omega (arith, ints, all, rest, gone, part)

-- and with another one there
rows_with : (index : Option ℕ) (t : TaggedRows) (k : Tag) (o : Option (List Cell)) (v : Cell) → value_count index (values (set_at t k o)) v ≡ value_count index (values (remove t k)) v + one (value_of index o) v
rows_with index t k None v = omega arith
rows_with index t k (Some row) v =
    let all = count_is_sum index v (entries (insert t k row)) in
    let rest = count_is_sum index v (entries (remove t k)) in
    let gone = sum_remove tag_total tag_same (adds index v) t k (get t k) refl in
    let come = sum_insert tag_total tag_same (adds index v) t k row in
    omega (arith, ints, all, rest, gone, come)

-- the counts after a change
abbrev after_change : Option ℕ → List (Cell × ℕ) → Change (List Cell) → List (Cell × ℕ)
after_change index counts c = with_row (without_row counts (value_of index c.old)) (value_of index c.new)

has_after : (index : Option ℕ) (t : TaggedRows) (k : Tag) (c : Change (List Cell)) (counts : List (Cell × ℕ)) → c.old ≡ get t k → HasCounts counts (value_count index (values t))
    → HasCounts (after_change index counts c) (value_count index (values (set_at t k c.new)))
has_after index t k c counts old has =
    let rest = value_count index (values (remove t k)) in
    row_more (without_row counts (value_of index c.old)) rest (value_count index (values (set_at t k c.new))) (value_of index c.new)
    (row_less counts (value_count index (values t)) rest (value_of index c.old) has (λ v. rows_without index t k c.old v (sym old)))
    (λ v. rows_with index t k c.new v)

has_after_all : (index : Option ℕ) (t : TaggedRows) (es : List (Tag × Change (List Cell))) (counts : List (Cell × ℕ)) → T (is_sorted tag_cmp es) → ((q : Tag) → IfSome (find tag_cmp q es) (λ c. c.old ≡ get t q))
    → HasCounts counts (value_count index (values t)) → HasCounts (fold (λ n e. after_change index n e.1) counts es) (value_count index (values (applied_list t es)))
has_after_all index t [] counts sorted fits has = has
has_after_all index t (e ∷ es) counts sorted fits has =
    has_after_all index (set_at t e.0 e.1.new) es (after_change index counts e.1) (T-second (below_all tag_cmp e.0 es) (is_sorted tag_cmp es) sorted)
    (fits_later tag_total tag_same (λ row. pos 0) t e es sorted fits)
    (has_after index t e.0 e.1 counts (fits_first tag_total tag_same (λ row. pos 0) t e es fits) has)

by_changes : (index : Option ℕ) (counts : List (Cell × ℕ)) (es : List Entry) → counts_after index counts es ≡ fold (λ n e. after_change index n e.1) counts (map entry_change es)
by_changes index counts [] = refl
by_changes index counts (e ∷ es) = by_changes index (after_change index counts (entry_change e).1) es

-- entries that fit lead the counts of the rows to those of the rows afterwards
pub counts_applied : (index : Option ℕ) (t : TaggedRows) (d : Changes) (es : List Entry) → map entry_change es ≡ entries d → Fits t d → counts_after index (counts_of index (values t)) es ≡ counts_of index (values (applied t d))
counts_applied index t d es e fits =
    by_changes index (counts_of index (values t)) es
    ∙ ap (fold (λ n e. after_change index n e.1) (counts_of index (values t))) e
    ∙ same_counts _ _ (value_count index (values (applied t d)))
    (has_after_all index t (entries d) (counts_of index (values t)) (entries_sorted d) (λ q. subst (λ o. IfSome o (λ c. c.old ≡ get t q)) (get-entries d q) (fits.at q)) (counts_have index (values t)))
    (counts_have index (values (applied t d)))
