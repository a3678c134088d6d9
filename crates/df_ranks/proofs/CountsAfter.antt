-- The counts of a column after a delta of its rows.
use Rattle.std.proofs.Common.{◌≡◌, ℕ, zero, suc, ◌+◌, ◌%◌, ◌^◌, ◌<◌, ◌≤◌, Bool, true, false, cond, not, List, [], ◌∷◌, Option, Some, None, length, map, filter, refl, sym, ap, ◌∙◌, arith}
use Rattle.std.specs.Prelude.{T, ◌&&◌, unwrap_or}
use Rattle.std.specs.BTreeMap.{BTreeMap, get}
use Rattle.std.specs.Option.{option_map}
use Rattle.std.specs.FinMap as finite
use Rattle.std.specs.FinMap.{find, is_sorted}
use Rattle.std.proofs.lemmas.List.{length-map}
use Rattle.df_value.specs.CellEq.{cell_eq, cell_eq-Decides}
use Rattle.df_value.specs.CellOrder.{cell_cmp}
use Rattle.df_value.specs.Rows.{cell_at}
use Rattle.df_value.specs.declared.cell.Cell.{Cell}
use Rattle.df_expr.specs.Value.{is_null}
use Rattle.df_column.specs.Changes.{after_changes, applied}
use Rattle.df_column.specs.TagOrder.{tag_total, tag_same}
use Rattle.df_column.specs.Tables.{TaggedRows, entry_change}
use Rattle.df_column.specs.declared.entry.Entry.{Entry}
use Rattle.df_column.specs.declared.tag.Tag.{Tag}
use Rattle.df_counts.specs.Counts.{AreCounts, count_change, some_count, value_count, value_in}
use Rattle.df_delta.specs.Deltas.{Changes}
use Rattle.df_delta.specs.Differences.{Fits}
use Rattle.df_delta.proofs.Changes.{after_change}
use Rattle.df_ranks.specs.Rises.{AreRises, come, gone, has_value, is_value, rise_of}
use Rattle.df_ranks.proofs.CountChanges.{find_raised, lookup_find}
use Rattle.df_ranks.proofs.Raises.{wrapped}
use Rattle.df_ranks.proofs.RowSums.{coming, going, part, total, total-map, total-sum_by, total_applied}

-- a value is that of a cell where it is not null and the cell is equal
value_is : (c v : Cell) → is_value v (value_in c) ≡ (not (is_null v) && cell_eq c v)
value_is c v = by_tests (is_null c) (is_null v) (cell_eq c v) refl refl refl where
  nulls : cell_eq c v ≡ true → is_null c ≡ is_null v
  nulls e = ap is_null ((cell_eq-Decides c v).0 e)

  by_tests : (m n e : Bool) → is_null c ≡ m → is_null v ≡ n → cell_eq c v ≡ e → is_value v (cond m None (Some c)) ≡ (not n && e)
  by_tests true true e p q r = refl
  by_tests true false true p q r = let f : true ≡ false = sym p ∙ nulls r ∙ q in cc f
  by_tests true false false p q r = refl
  by_tests false true true p q r = let f : true ≡ false = sym q ∙ sym (nulls r) ∙ p in cc f
  by_tests false true false p q r = r
  by_tests false false e p q r = r

-- 1 for a row that has the value
abbrev one : Option ℕ → Cell → List Cell → ℕ
one index v row = cond (has_value index v (Some row)) 1 0

counted : {X : Type 0} (p : X → Bool) (xs : List X) → length (filter p xs) ≡ total (λ x. cond (p x) 1 0) xs
counted p [] = refl
counted p (x ∷ xs) =
    let rest = counted p xs in
    elim (p x) as (λ b. length (cond b (x ∷ filter p xs) (filter p xs)) ≡ cond b 1 0 + total (λ x. cond (p x) 1 0) xs) [ true ↦ omega (arith, rest) | false ↦ omega (arith, rest) ]

nothing : {X : Type 0} (xs : List X) → 0 ≡ total (λ x. 0) xs
nothing [] = refl
nothing (x ∷ xs) = let rest = nothing xs in omega (arith, rest)

value_total : (index : Option ℕ) (v : Cell) (rows : List (List Cell)) → value_count index rows v ≡ total (one index v) rows
value_total index v rows = by_null (is_null v) ∙ ap (λ f. total f rows) (λ i row. cond (sym (value_is (cell_at index row) v) i) 1 0) where
  by_null : (m : Bool) → cond m 0 (length (filter (λ r. cell_eq (cell_at index r) v) rows)) ≡ total (λ row. cond (not m && cell_eq (cell_at index row) v) 1 0) rows
  by_null true = nothing rows
  by_null false = counted (λ r. cell_eq (cell_at index r) v) rows

few_pass : {X : Type 0} (p : X → Bool) (xs : List X) → length (filter p xs) ≤ length xs
few_pass p [] = omega arith
few_pass p (x ∷ xs) =
    let rest = few_pass p xs in
    elim (p x) as (λ b. length (cond b (x ∷ filter p xs) (filter p xs)) ≤ suc (length xs)) [ true ↦ omega (arith, rest) | false ↦ omega (arith, rest) ]

few_rows : (index : Option ℕ) (v : Cell) (t : TaggedRows) → finite.len t ≤ 2 ^ 60 → value_count index (finite.values t) v < 2 ^ 64
few_rows index v t few =
    let l = finite.len-entries t in
    let m = length-map (finite.entries t) (λ e. e.1) in
    let most = few_pass (λ r. cell_eq (cell_at index r) v) (finite.values t) in
    elim (is_null v) as (λ b. cond b 0 (length (filter (λ r. cell_eq (cell_at index r) v) (finite.values t))) < 2 ^ 64) [ true ↦ omega arith | false ↦ omega (arith, l, m, most, few) ]

-- 1 for an entry's row that has the value
part_is : (index : Option ℕ) (v : Cell) (q : Tag) (o : Option (List Cell)) → part (λ (e : Tag × List Cell). one index v e.1) q o ≡ cond (has_value index v o) 1 0
part_is index v q None = refl
part_is index v q (Some row) = refl

module _ (index : Option ℕ) (v : Cell) (es : List Entry) where
  went : going (λ (e : Tag × List Cell). one index v e.1) (map entry_change es) ≡ gone index v es
  went =
      total-map (λ c. part (λ (e : Tag × List Cell). one index v e.1) c.0 c.1.old) entry_change es
      ∙ ap (λ f. total f es) (λ i e. part_is index v e.tag e.old i)
      ∙ sym (total-sum_by (λ e. cond (has_value index v e.old) 1 0) es)

  came : coming (λ (e : Tag × List Cell). one index v e.1) (map entry_change es) ≡ come index v es
  came =
      total-map (λ c. part (λ (e : Tag × List Cell). one index v e.1) c.0 c.1.new) entry_change es
      ∙ ap (λ f. total f es) (λ i e. part_is index v e.tag e.new i)
      ∙ sym (total-sum_by (λ e. cond (has_value index v e.new) 1 0) es)

  tagged_total : (t : TaggedRows) → value_count index (finite.values t) v ≡ total (λ e. one index v e.1) (finite.entries t)
  tagged_total t = value_total index v (finite.values t) ∙ total-map (one index v) (λ e. e.1) (finite.entries t)

  -- what there is afterwards and what goes is what there was and what comes
  balance : (t : TaggedRows) (d : Changes) → map entry_change es ≡ finite.entries d → Fits t d
      → value_count index (finite.values (applied t d)) v + gone index v es ≡ value_count index (finite.values t) v + come index v es
  balance t d all fits =
      let sums = total_applied tag_total tag_same (λ (e : Tag × List Cell). one index v e.1) t d fits in
      let now = tagged_total (applied t d) in
      let before = tagged_total t in
      let left : going (λ (e : Tag × List Cell). one index v e.1) (finite.entries d) ≡ gone index v es = ap (going (λ (e : Tag × List Cell). one index v e.1)) (sym all) ∙ went in
      let added : coming (λ (e : Tag × List Cell). one index v e.1) (finite.entries d) ≡ come index v es = ap (coming (λ (e : Tag × List Cell). one index v e.1)) (sym all) ∙ came in
      omega (arith, sums, now, before, left, added)

had : (n : ℕ) → unwrap_or (some_count n) 0 ≡ n
had zero = refl
had (suc n) = refl

unmoved : (b n : ℕ) → (b + 0) % 2 ^ 64 ≡ n → b < 2 ^ 64 → b ≡ n
unmoved b n e lt = omega arith

pub counts_after : (index : Option ℕ) (t : TaggedRows) (d : Changes) (es : List Entry) (counts : List (Cell × ℕ)) (rises : BTreeMap Cell ℕ) → map entry_change es ≡ finite.entries d → Fits t d
    → finite.len t ≤ 2 ^ 60 → finite.len (applied t d) ≤ 2 ^ 60 → AreCounts counts index (finite.values t) → AreRises rises index es → T (is_sorted cell_cmp rises.entries)
    → AreCounts (after_changes cell_cmp counts (map (count_change counts) rises.entries)) index (finite.values (applied t d))
counts_after index t d es counts rises all fits few few_now are rise sorted = record {
  at = λ v. find_raised counts v rises.entries sorted ∙ by_found v (find cell_cmp v rises.entries) (sym (lookup_find cell_cmp v rises.entries));
} where
  moved : (v : Cell) (r : ℕ) → rise_of rises v ≡ r → (value_count index (finite.values t) v + r) % 2 ^ 64 ≡ value_count index (finite.values (applied t d)) v
  moved v r e =
      wrapped _ _ (gone index v es) (come index v es) r (balance index v es t d all fits)
      (ap (λ n. (n + gone index v es) % 2 ^ 64) (sym e) ∙ rise.at v)
      (few_rows index v (applied t d) few_now)

  by_found : (v : Cell) (o : Option ℕ) → o ≡ get cell_cmp rises v
      → after_change (option_map (λ r. (count_change counts (v, r)).1) o) (find cell_cmp v counts) ≡ some_count (value_count index (finite.values (applied t d)) v)
  by_found v None e = are.at v ∙ ap some_count (unmoved _ _ (moved v 0 (ap (λ o. unwrap_or o 0) (sym e))) (few_rows index v t few))
  by_found v (Some r) e =
      ap (λ o. some_count ((unwrap_or o 0 + r) % 2 ^ 64)) (are.at v)
      ∙ ap (λ n. some_count ((n + r) % 2 ^ 64)) (had (value_count index (finite.values t) v))
      ∙ ap some_count (moved v r (ap (λ o. unwrap_or o 0) (sym e)))
