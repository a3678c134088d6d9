-- Counts by value have each value of the rows with the number of its rows, and keep to it with a row more and with a row less.
use Rattle.std.proofs.Common.{◌≡◌, ℕ, zero, suc, ◌+◌, ◌-◌, ◌≤◌, Bool, true, false, cond, not, List, [], ◌∷◌, Option, Some, None, length, filter, refl, sym, ap, ◌∙◌, arith, add-one}
use Rattle.std.specs.Prelude.{T, ◌&&◌, fold, is_some, unwrap_or}
use Rattle.std.specs.Cmp.{alike_right, eq_by_cmp_equiv}
use Rattle.std.specs.Ordering.{eq_by_cmp, is_eq}
use Rattle.std.specs.FinMap.{find, is_sorted}
use Rattle.std.specs.FinMap.Entries.{find-put, find-where_key, is_sorted-put, is_sorted-where_key, length-put, same_entries}
use Rattle.df_value.specs.CellEq.{cell_eq, cell_eq-Decides}
use Rattle.df_value.specs.CellOrder.{cell_cmp, cell_cmp_total}
use Rattle.df_value.specs.CellOrders.{exact}
use Rattle.df_value.specs.contracts.cell.CellOrd.TheImpl.Laws.{matches_eq-law}
use Rattle.df_value.specs.Rows.{cell_at}
use Rattle.df_value.specs.declared.cell.Cell.{Cell}
use Rattle.df_expr.specs.Value.{is_null}
use Rattle.df_column.specs.Changes.{edit}
use Rattle.df_counts.specs.Counts.{AreCounts, some_count, value_count, value_in}
use Rattle.df_group.specs.Totals.{count_in, counts_of, with_row, without_row}

-- counts by rising value, of each value with such a number of rows
pub record HasCounts (counts : List (Cell × ℕ)) (n : Cell → ℕ) : Type 0 where
  pub sorted : T (is_sorted cell_cmp counts)
  pub at : (v : Cell) → find cell_cmp v counts ≡ some_count (n v)

-- whether this is the value, if there is one
abbrev pub is_value : Option Cell → Cell → Bool
is_value None v = false
is_value (Some c) v = cell_eq c v

-- 1 if it is
abbrev pub one : Option Cell → Cell → ℕ
one o v = cond (is_value o v) 1 0

turned : {A : Type 0} (b : Bool) (x y : A) → cond (not b) x y ≡ cond b y x
turned true x y = refl
turned false x y = refl

pub tie : (v c : Cell) → eq_by_cmp cell_cmp v c ≡ cell_eq c v
tie v c = (eq_by_cmp_equiv cell_cmp_total).symm v c ∙ sym (matches_eq-law c v)

pub find_edit : (es : List (Cell × ℕ)) (c : Cell) (o : Option ℕ) (v : Cell) → find cell_cmp v (edit cell_cmp es c o) ≡ cond (cell_eq c v) o (find cell_cmp v es)
find_edit es c None v =
    find-where_key cell_cmp (λ x. not (eq_by_cmp cell_cmp c x)) v (λ x t. ap (λ r. not (is_eq r)) (sym (alike_right cell_cmp_total v x c t))) es
    ∙ turned (eq_by_cmp cell_cmp c v) _ _
    ∙ ap (λ b. cond b None (find cell_cmp v es)) (sym (matches_eq-law c v))
find_edit es c (Some n) v = find-put cell_cmp cell_cmp_total v c n es ∙ ap (λ b. cond b (Some n) (find cell_cmp v es)) (tie v c)

sorted_edit : (es : List (Cell × ℕ)) (c : Cell) (o : Option ℕ) → T (is_sorted cell_cmp es) → T (is_sorted cell_cmp (edit cell_cmp es c o))
sorted_edit es c None h = is_sorted-where_key cell_cmp (λ x. not (eq_by_cmp cell_cmp c x)) es h
sorted_edit es c (Some n) h = is_sorted-put cell_cmp cell_cmp_total c n es h

had : (n : ℕ) → unwrap_or (some_count n) 0 ≡ n
had zero = refl
had (suc n) = refl

pub some_more : (n : ℕ) → some_count (n + 1) ≡ Some (n + 1)
some_more n = ap some_count (add-one n) ∙ ap Some (sym (add-one n))

pub count_is : (counts : List (Cell × ℕ)) (n : Cell → ℕ) (v : Cell) → HasCounts counts n → count_in counts v ≡ n v
count_is counts n v h = ap (λ o. unwrap_or o 0) (h.at v) ∙ had (n v)

pub row_more : (counts : List (Cell × ℕ)) (n m : Cell → ℕ) (o : Option Cell) → HasCounts counts n → ((v : Cell) → m v ≡ n v + one o v) → HasCounts (with_row counts o) m
row_more counts n m None h more = record { sorted = h.sorted; at = λ v. let e = more v in h.at v ∙ ap some_count (omega (arith, e)) }
row_more counts n m (Some c) h more = record {
  sorted = sorted_edit counts c (some_count (count_in counts c + 1)) h.sorted;
  at = λ v. find_edit counts c (some_count (count_in counts c + 1)) v ∙ by_case v (cell_eq c v) refl (more v);
} where
  by_case : (v : Cell) (b : Bool) → cell_eq c v ≡ b → m v ≡ n v + cond b 1 0 → cond b (some_count (count_in counts c + 1)) (find cell_cmp v counts) ≡ some_count (m v)
  by_case v true t e = let is : count_in counts c ≡ n v = count_is counts n c h ∙ ap n ((cell_eq-Decides c v).0 t) in ap some_count (omega (arith, is, e))
  by_case v false t e = h.at v ∙ ap some_count (omega (arith, e))

pub row_less : (counts : List (Cell × ℕ)) (n m : Cell → ℕ) (o : Option Cell) → HasCounts counts n → ((v : Cell) → n v ≡ m v + one o v) → HasCounts (without_row counts o) m
row_less counts n m None h less = record { sorted = h.sorted; at = λ v. let e = less v in h.at v ∙ ap some_count (omega (arith, e)) }
row_less counts n m (Some c) h less = record {
  sorted = sorted_edit counts c (some_count (count_in counts c - 1)) h.sorted;
  at = λ v. find_edit counts c (some_count (count_in counts c - 1)) v ∙ by_case v (cell_eq c v) refl (less v);
} where
  by_case : (v : Cell) (b : Bool) → cell_eq c v ≡ b → n v ≡ m v + cond b 1 0 → cond b (some_count (count_in counts c - 1)) (find cell_cmp v counts) ≡ some_count (m v)
  by_case v true t e = let is : count_in counts c ≡ n v = count_is counts n c h ∙ ap n ((cell_eq-Decides c v).0 t) in ap some_count (omega (arith, is, e))
  by_case v false t e = h.at v ∙ ap some_count (omega (arith, e))

-- there is one list of counts with these numbers
pub same_counts : (counts others : List (Cell × ℕ)) (n : Cell → ℕ) → HasCounts counts n → HasCounts others n → counts ≡ others
same_counts counts others n h k = same_entries cell_cmp cell_cmp_total exact counts others h.sorted k.sorted (λ v. h.at v ∙ sym (k.at v))

-- whether a cell that is a value is v
pub value_is : (c v : Cell) → is_value (value_in c) v ≡ (not (is_null c) && cell_eq c v)
value_is c v = elim (is_null c) as (λ m. is_value (cond m None (Some c)) v ≡ (not m && cell_eq c v)) [ true ↦ refl | false ↦ refl ]

-- one row more
pub value_more : (index : Option ℕ) (row : List Cell) (rows : List (List Cell)) (v : Cell) → value_count index (row ∷ rows) v ≡ one (value_in (cell_at index row)) v + value_count index rows v
value_more index row rows v =
    let c = cell_at index row in
    by_tests (is_null c) (is_null v) (cell_eq c v) (λ e. ap is_null ((cell_eq-Decides c v).0 e))
    ∙ ap (λ b. cond b 1 0 + value_count index rows v) (sym (value_is c v))
  where
    same_value : List (List Cell)
    same_value = filter (λ r. cell_eq (cell_at index r) v) rows

    by_tests : (m n e : Bool) → (e ≡ true → m ≡ n) → cond n 0 (length (cond e (row ∷ same_value) same_value)) ≡ cond (not m && e) 1 0 + cond n 0 (length same_value)
    by_tests true true e same = omega arith
    by_tests true false true same = let f : true ≡ false = same refl in cc f
    by_tests true false false same = omega arith
    by_tests false true true same = let f : false ≡ true = same refl in cc f
    by_tests false true false same = omega arith
    by_tests false false true same = omega arith
    by_tests false false false same = omega arith

pub no_rows : (index : Option ℕ) (v : Cell) → value_count index [] v ≡ 0
no_rows index v = elim (is_null v) as (λ m. ◌≡◌ {A = ℕ} (cond m 0 0) 0) [ true ↦ refl | false ↦ refl ]

abbrev pub counts_from : Option ℕ → List (Cell × ℕ) → List (List Cell) → List (Cell × ℕ)
counts_from index counts rows = fold (λ counts row. with_row counts (value_in (cell_at index row))) counts rows

pub has_counts_from : (index : Option ℕ) (rows : List (List Cell)) (counts : List (Cell × ℕ)) (n m : Cell → ℕ) → HasCounts counts n → ((v : Cell) → m v ≡ n v + value_count index rows v) → HasCounts (counts_from index counts rows) m
has_counts_from index [] counts n m h e = record { sorted = h.sorted; at = λ v. let is = e v in let none = no_rows index v in h.at v ∙ ap some_count (omega (arith, is, none)) }
has_counts_from index (row ∷ rows) counts n m h e =
    let o = value_in (cell_at index row) in
    has_counts_from index rows (with_row counts o) (λ v. n v + one o v) m (row_more counts n (λ v. n v + one o v) o h (λ v. refl))
    (λ v. let is = e v in let more = value_more index row rows v in omega (arith, is, more))

-- the counts of rows are those of their values
pub counts_have : (index : Option ℕ) (rows : List (List Cell)) → HasCounts (counts_of index rows) (value_count index rows)
counts_have index rows = has_counts_from index rows [] (λ v. 0) (value_count index rows) (record { sorted = tt; at = λ v. refl }) (λ v. omega arith)

pub counts_are : (index : Option ℕ) (rows : List (List Cell)) → AreCounts (counts_of index rows) index rows
counts_are index rows = record { at = (counts_have index rows).at }

few_pass : {X : Type 0} (p : X → Bool) (xs : List X) → length (filter p xs) ≤ length xs
few_pass p [] = omega arith
few_pass p (x ∷ xs) =
    let rest = few_pass p xs in
    elim (p x) as (λ b. length (cond b (x ∷ filter p xs) (filter p xs)) ≤ suc (length xs)) [ true ↦ omega (arith, rest) | false ↦ omega (arith, rest) ]

-- no value has more rows than there are
pub few_rows : (index : Option ℕ) (rows : List (List Cell)) (v : Cell) → count_in (counts_of index rows) v ≤ length rows
few_rows index rows v =
    let is = count_is (counts_of index rows) (value_count index rows) v (counts_have index rows) in
    let most = few_pass (λ r. cell_eq (cell_at index r) v) rows in
    let few : value_count index rows v ≤ length rows = elim (is_null v) as (λ b. cond b 0 (length (filter (λ r. cell_eq (cell_at index r) v) rows)) ≤ length rows) [ true ↦ omega arith | false ↦ omega (arith, most) ] in
    omega (arith, is, few)

-- a row more has a value more where its value had no row
pub length_more : (counts : List (Cell × ℕ)) (c : Cell) → T (is_sorted cell_cmp counts) → length (with_row counts (Some c)) ≡ cond (is_some (find cell_cmp c counts)) (length counts) (length counts + 1)
length_more counts c h =
    ap (λ o. length (edit cell_cmp counts c o)) (some_more (count_in counts c))
    ∙ length-put cell_cmp cell_cmp_total c (count_in counts c + 1) counts h

pub sorted_more : (counts : List (Cell × ℕ)) (o : Option Cell) → T (is_sorted cell_cmp counts) → T (is_sorted cell_cmp (with_row counts o))
sorted_more counts None h = h
sorted_more counts (Some c) h = sorted_edit counts c (some_count (count_in counts c + 1)) h

few_more : (counts : List (Cell × ℕ)) (o : Option Cell) → T (is_sorted cell_cmp counts) → length (with_row counts o) ≤ length counts + 1
few_more counts None h = omega arith
few_more counts (Some c) h =
    let is = length_more counts c h in
    let few : cond (is_some (find cell_cmp c counts)) (length counts) (length counts + 1) ≤ length counts + 1 = elim (is_some (find cell_cmp c counts)) as (λ b. cond b (length counts) (length counts + 1) ≤ length counts + 1) [ true ↦ omega arith | false ↦ omega arith ] in
    omega (arith, is, few)

few_from : (index : Option ℕ) (rows : List (List Cell)) (counts : List (Cell × ℕ)) → T (is_sorted cell_cmp counts) → length (counts_from index counts rows) ≤ length counts + length rows
few_from index [] counts h = omega arith
few_from index (row ∷ rows) counts h =
    let more = few_more counts (value_in (cell_at index row)) h in
    let rest = few_from index rows (with_row counts (value_in (cell_at index row))) (sorted_more counts (value_in (cell_at index row)) h) in
    omega (arith, more, rest)

-- there are no more values than rows
pub few_values : (index : Option ℕ) (rows : List (List Cell)) → length (counts_of index rows) ≤ length rows
few_values index rows = let few = few_from index rows [] tt in omega (arith, few)
