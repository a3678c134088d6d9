-- The number of distinct cells is the number of values, and one more where a cell is null.
use Rattle.std.proofs.Common.{◌≡◌, ℕ, ◌+◌, ◌≤◌, ◌<◌, Bool, true, false, cond, not, List, [], ◌∷◌, ◌++◌, Option, Some, None, length, map, suc, is_some, refl, sym, ap, subst, ◌∙◌, arith}
use Rattle.std.specs.Prelude.{T, ◌&&◌, ◌||◌}
use Rattle.std.specs.List.{list_any}
use Rattle.std.specs.FinMap.{find, is_sorted}
use Rattle.std.proofs.lemmas.List.{length-append}
use Rattle.std.proofs.lemmas.List.Folds.{list_any-append}
use Rattle.df_value.specs.CellEq.{cell_eq, cell_eq-Decides}
use Rattle.df_value.specs.CellOrder.{cell_cmp}
use Rattle.df_value.specs.Rows.{cell_at, row_eq}
use Rattle.df_value.specs.declared.cell.Cell.{Cell}
use Rattle.df_value.specs.declared.cell.Cell.TheVariants as cell
use Rattle.df_expr.specs.Value.{is_null}
use Rattle.df_counts.specs.Counts.{some_count}
use Rattle.df_ops.specs.Aggregates.{cells_of, count_of, n_unique_of, non_null}
use Rattle.df_ops.specs.Groups.{distinct_after, key_of}
use Rattle.df_group.specs.Totals.{count_in, counts_of, with_row}
use Rattle.df_group.proofs.ValueCounts.{counts_from, few_values, find_edit, length_more, some_more, sorted_more}

-- whether a cell was seen, of the counts of the values seen and whether null was
abbrev was_seen : List (Cell × ℕ) → Bool → Cell → Bool
was_seen counts nulls c = cond (is_null c) nulls (is_some (find cell_cmp c counts))

-- whether null stands among the cells
abbrev pub has_null : Option ℕ → List (List Cell) → Bool
has_null index rows = list_any is_null (cells_of index rows)

one_cell : (c d : Cell) → row_eq (c ∷ []) (d ∷ []) ≡ cell_eq c d
one_cell c d = elim (cell_eq c d) as (λ b. (b && true) ≡ b) [ true ↦ refl | false ↦ refl ]

null_is : (c : Cell) → is_null c ≡ true → c ≡ cell.Null
null_is cell.Null e = refl
null_is (cell.Int n) e = cc
null_is (cell.Wide n) e = cc
null_is (cell.Text t) e = cc
null_is (cell.Bool b) e = cc
null_is (cell.Frac f) e = cc

or_false : (b : Bool) → (b || false) ≡ b
or_false true = refl
or_false false = refl

-- the keys seen and the cells seen are the same
record AreSeen (seen : List (List Cell)) (counts : List (Cell × ℕ)) (nulls : Bool) : Type 0 where
  at : (c : Cell) → list_any (row_eq (c ∷ [])) seen ≡ was_seen counts nulls c

any_more : (seen : List (List Cell)) (c d : Cell) → list_any (row_eq (d ∷ [])) (seen ++ (c ∷ []) ∷ []) ≡ (list_any (row_eq (d ∷ [])) seen || cell_eq d c)
any_more seen c d =
    list_any-append (row_eq (d ∷ [])) seen ((c ∷ []) ∷ [])
    ∙ ap (λ b. list_any (row_eq (d ∷ [])) seen || b) (or_false (row_eq (d ∷ []) (c ∷ [])) ∙ one_cell d c)

same_test : (c d : Cell) → cell_eq c d ≡ cell_eq d c
same_test c d = by_test (cell_eq c d) (cell_eq d c) refl refl where
  by_test : (a b : Bool) → cell_eq c d ≡ a → cell_eq d c ≡ b → a ≡ b
  by_test true true e f = refl
  by_test true false e f = sym ((cell_eq-Decides d c).1 (sym ((cell_eq-Decides c d).0 e))) ∙ f
  by_test false true e f = sym e ∙ (cell_eq-Decides c d).1 (sym ((cell_eq-Decides d c).0 f))
  by_test false false e f = refl

-- null is seen
null_seen : (seen : List (List Cell)) (counts : List (Cell × ℕ)) (nulls : Bool) (c : Cell) → is_null c ≡ true → AreSeen seen counts nulls → AreSeen (seen ++ (c ∷ []) ∷ []) counts true
null_seen seen counts nulls c null are = record {
  at = λ d. any_more seen c d ∙ ap (λ b. b || cell_eq d c) (are.at d) ∙ by_null d (is_null d) (cell_eq d c) refl refl;
} where
  by_null : (d : Cell) (m e : Bool) → is_null d ≡ m → cell_eq d c ≡ e → (cond m nulls (is_some (find cell_cmp d counts)) || e) ≡ cond m true (is_some (find cell_cmp d counts))
  by_null d true true n f = elim nulls as (λ b. (b || true) ≡ true) [ true ↦ refl | false ↦ refl ]
  by_null d true false n f = let no : false ≡ true = sym f ∙ (cell_eq-Decides d c).1 (null_is d n ∙ sym (null_is c null)) in cc no
  by_null d false true n f = let no : false ≡ true = sym n ∙ ap is_null ((cell_eq-Decides d c).0 f) ∙ null in cc no
  by_null d false false n f = or_false (is_some (find cell_cmp d counts))

found_more : (counts : List (Cell × ℕ)) (c d : Cell) → is_some (find cell_cmp d (with_row counts (Some c))) ≡ (cell_eq c d || is_some (find cell_cmp d counts))
found_more counts c d =
    ap is_some (find_edit counts c _ d)
    ∙ elim (cell_eq c d) as (λ b. is_some (cond b (some_count (count_in counts c + 1)) (find cell_cmp d counts)) ≡ (b || is_some (find cell_cmp d counts))) [
      | true ↦ ap is_some (some_more (count_in counts c))
      | false ↦ refl
    ]

-- a value that was seen before is seen once more
still_seen : (seen : List (List Cell)) (counts : List (Cell × ℕ)) (nulls : Bool) (c : Cell) → is_some (find cell_cmp c counts) ≡ true → AreSeen seen counts nulls → AreSeen seen (with_row counts (Some c)) nulls
still_seen seen counts nulls c known are = record {
  at = λ d. are.at d ∙ ap (cond (is_null d) nulls) (by_test d (cell_eq c d) refl ∙ sym (found_more counts c d));
} where
  by_test : (d : Cell) (e : Bool) → cell_eq c d ≡ e → is_some (find cell_cmp d counts) ≡ (e || is_some (find cell_cmp d counts))
  by_test d true f = ap (λ x. is_some (find cell_cmp x counts)) (sym ((cell_eq-Decides c d).0 f)) ∙ known
  by_test d false f = refl

-- a value is seen for the first time
value_seen : (seen : List (List Cell)) (counts : List (Cell × ℕ)) (nulls : Bool) (c : Cell) → is_null c ≡ false → AreSeen seen counts nulls → AreSeen (seen ++ (c ∷ []) ∷ []) (with_row counts (Some c)) nulls
value_seen seen counts nulls c value are = record {
  at = λ d.
      any_more seen c d
      ∙ ap (λ b. b || cell_eq d c) (are.at d)
      ∙ by_null d (is_null d) (cell_eq d c) (is_some (find cell_cmp d counts)) refl refl
      ∙ ap (λ b. cond (is_null d) nulls (b || is_some (find cell_cmp d counts))) (same_test d c)
      ∙ ap (cond (is_null d) nulls) (sym (found_more counts c d));
} where
  by_null : (d : Cell) (m e b : Bool) → is_null d ≡ m → cell_eq d c ≡ e → (cond m nulls b || e) ≡ cond m nulls (e || b)
  by_null d true true b n f = let no : true ≡ false = sym n ∙ ap is_null ((cell_eq-Decides d c).0 f) ∙ value in cc no
  by_null d true false b n f = or_false nulls
  by_null d false true true n f = refl
  by_null d false true false n f = refl
  by_null d false false b n f = or_false b

abbrev pub one_if : Bool → ℕ
one_if b = cond b 1 0

first_null : (d n s t k a b : ℕ) → d + (n + 1) ≡ t + (k + 1) → t ≡ s + 1 → a ≡ 0 → b ≡ 1 → d + (n + a) ≡ s + (k + b)
first_null d n s t k a b e l p q = omega arith

first_value : (d n m s t a k : ℕ) → d + (m + a) ≡ t + k → t ≡ s + 1 → m ≡ n + 1 → d + (n + a) ≡ s + k
first_value d n m s t a k e l p = omega arith

-- what the rows add to the keys seen is what they add to the values counted, and null
abbrev AddAlike : Option ℕ → List (List Cell) → List (List Cell) → List (Cell × ℕ) → Bool → Type 0
AddAlike index rows seen counts nulls =
    length (distinct_after seen (map (key_of (index ∷ [])) rows)) + (length counts + one_if nulls) ≡ length seen + (length (counts_from index counts rows) + one_if (nulls || has_null index rows))

distinct_from : (index : Option ℕ) (rows seen : List (List Cell)) (counts : List (Cell × ℕ)) (nulls : Bool) → T (is_sorted cell_cmp counts) → AreSeen seen counts nulls → AddAlike index rows seen counts nulls
distinct_from index [] seen counts nulls sorted are = ap (λ b. length seen + (length counts + one_if b)) (sym (or_false nulls))
distinct_from index (row ∷ rows) seen counts nulls sorted are = by_null (distinct_from index rows) (is_null c) refl where
  c : Cell
  c = cell_at index row

  keys : List (List Cell)
  keys = map (key_of (index ∷ [])) rows

  -- what is to be shown where the cell is null or not, and where it was seen or not
  Goal : Bool → Bool → Type 0
  Goal m b =
      length (cond b (distinct_after seen keys) (distinct_after (seen ++ (c ∷ []) ∷ []) keys)) + (length counts + one_if nulls)
      ≡ length seen + (length (counts_from index (with_row counts (cond m None (Some c))) rows) + one_if (nulls || (m || has_null index rows)))

  Rest : Type 0
  Rest = (seen : List (List Cell)) (counts : List (Cell × ℕ)) (nulls : Bool) → T (is_sorted cell_cmp counts) → AreSeen seen counts nulls → AddAlike index rows seen counts nulls

  longer : length (seen ++ (c ∷ []) ∷ []) ≡ length seen + 1
  longer = length-append seen ((c ∷ []) ∷ [])

  null_case : Rest → is_null c ≡ true → (b : Bool) → nulls ≡ b → Goal true b
  null_case rest null true e =
      rest seen counts nulls sorted are
      ∙ ap (λ b. length seen + (length (counts_from index counts rows) + one_if b)) (ap (λ b. b || has_null index rows) e ∙ sym (ap (λ b. b || true) e))
  null_case rest null false e =
      let later = rest (seen ++ (c ∷ []) ∷ []) counts true sorted (null_seen seen counts nulls c null are) in
      let before : one_if nulls ≡ 0 = ap one_if e in
      let after : one_if (nulls || true) ≡ 1 = ap (λ b. one_if (b || true)) e in
      first_null (length (distinct_after (seen ++ (c ∷ []) ∷ []) keys)) (length counts) (length seen) (length (seen ++ (c ∷ []) ∷ [])) (length (counts_from index counts rows)) (one_if nulls) (one_if (nulls || true)) later longer before after

  value_case : Rest → is_null c ≡ false → (b : Bool) → is_some (find cell_cmp c counts) ≡ b → Goal false b
  value_case rest value true e =
      let later = rest seen (with_row counts (Some c)) nulls (sorted_more counts (Some c) sorted) (still_seen seen counts nulls c e are) in
      let same : length (with_row counts (Some c)) ≡ length counts = length_more counts c sorted ∙ ap (λ b. cond b (length counts) (length counts + 1)) e in
      ap (λ n. length (distinct_after seen keys) + (n + one_if nulls)) (sym same) ∙ later
  value_case rest value false e =
      let later = rest (seen ++ (c ∷ []) ∷ []) (with_row counts (Some c)) nulls (sorted_more counts (Some c) sorted) (value_seen seen counts nulls c value are) in
      let more : length (with_row counts (Some c)) ≡ length counts + 1 = length_more counts c sorted ∙ ap (λ b. cond b (length counts) (length counts + 1)) e in
      first_value (length (distinct_after (seen ++ (c ∷ []) ∷ []) keys)) (length counts) (length (with_row counts (Some c))) (length seen) (length (seen ++ (c ∷ []) ∷ [])) (one_if nulls) _ later longer more

  by_null : Rest → (m : Bool) → is_null c ≡ m → length (distinct_after seen (map (key_of (index ∷ [])) (row ∷ rows))) + (length counts + one_if nulls) ≡ length seen + (length (counts_from index (with_row counts (cond m None (Some c))) rows) + one_if (nulls || (m || has_null index rows)))
  by_null rest true e =
      let test : list_any (row_eq (c ∷ [])) seen ≡ nulls = are.at c ∙ ap (λ m. cond m nulls (is_some (find cell_cmp c counts))) e in
      subst (Goal true) (sym test) (null_case rest e nulls refl)
  by_null rest false e =
      let test : list_any (row_eq (c ∷ [])) seen ≡ is_some (find cell_cmp c counts) = are.at c ∙ ap (λ m. cond m nulls (is_some (find cell_cmp c counts))) e in
      subst (Goal false) (sym test) (value_case rest e (is_some (find cell_cmp c counts)) refl)

nothing_seen : AreSeen [] [] false
nothing_seen = record { at = λ c. elim (is_null c) as (λ m. false ≡ cond m false false) [ true ↦ refl | false ↦ refl ] }

-- the distinct cells of rows
pub distinct_is : (index : Option ℕ) (rows : List (List Cell)) → n_unique_of index rows ≡ length (counts_of index rows) + one_if (has_null index rows)
distinct_is index rows = let all = distinct_from index rows [] [] false tt nothing_seen in omega (arith, all)

-- null stands among the cells where fewer are not null than there are rows
null_counts : (index : Option ℕ) (rows : List (List Cell)) → cond (has_null index rows) (count_of (cells_of index rows) + 1) (count_of (cells_of index rows)) ≤ length rows
null_counts index [] = omega arith
null_counts index (row ∷ rows) =
    let rest = null_counts index rows in
    elim (is_null (cell_at index row)) as (λ m. cond (m || has_null index rows)
    (length (cond (not m) (cell_at index row ∷ non_null (cells_of index rows)) (non_null (cells_of index rows))) + 1)
    (length (cond (not m) (cell_at index row ∷ non_null (cells_of index rows)) (non_null (cells_of index rows)))) ≤ suc (length rows)) [
      | true ↦ elim (has_null index rows) as (λ h. cond h (count_of (cells_of index rows) + 1) (count_of (cells_of index rows)) ≤ length rows → count_of (cells_of index rows) + 1 ≤ suc (length rows)) [ true ↦ λ k. omega (arith, k) | false ↦ λ k. omega (arith, k) ] rest
      | false ↦ elim (has_null index rows) as (λ h. cond h (count_of (cells_of index rows) + 1) (count_of (cells_of index rows)) ≤ length rows → cond h (suc (count_of (cells_of index rows)) + 1) (suc (count_of (cells_of index rows))) ≤ suc (length rows)) [ true ↦ λ k. omega (arith, k) | false ↦ λ k. omega (arith, k) ] rest
    ]

no_null_counts : (index : Option ℕ) (rows : List (List Cell)) → has_null index rows ≡ false → count_of (cells_of index rows) ≡ length rows
no_null_counts index [] none = refl
no_null_counts index (row ∷ rows) none = by_null (is_null (cell_at index row)) none (no_null_counts index rows) where
  by_null : (m : Bool) → (m || has_null index rows) ≡ false → (has_null index rows ≡ false → count_of (cells_of index rows) ≡ length rows) → length (cond (not m) (cell_at index row ∷ non_null (cells_of index rows)) (non_null (cells_of index rows))) ≡ suc (length rows)
  by_null true h rest = cc h
  by_null false h rest = ap suc (rest h)

pub null_if : (index : Option ℕ) (rows : List (List Cell)) → count_of (cells_of index rows) < length rows → has_null index rows ≡ true
null_if index rows lt = by_null (has_null index rows) refl where
  by_null : (b : Bool) → has_null index rows ≡ b → b ≡ true
  by_null true e = refl
  by_null false e = let all = no_null_counts index rows e in absurd (omega (arith, lt, all))

pub null_unless : (index : Option ℕ) (rows : List (List Cell)) → length rows ≤ count_of (cells_of index rows) → has_null index rows ≡ false
null_unless index rows le = by_null (has_null index rows) (null_counts index rows) where
  by_null : (b : Bool) → cond b (count_of (cells_of index rows) + 1) (count_of (cells_of index rows)) ≤ length rows → b ≡ false
  by_null true h = absurd (omega (arith, le, h))
  by_null false h = refl

-- there are few distinct cells
pub few_distinct : (index : Option ℕ) (rows : List (List Cell)) → n_unique_of index rows ≤ length rows + 1
few_distinct index rows =
    let is = distinct_is index rows in
    let few = few_values index rows in
    let one : one_if (has_null index rows) ≤ 1 = elim (has_null index rows) as (λ b. one_if b ≤ 1) [ true ↦ omega arith | false ↦ omega arith ] in
    omega (arith, is, few, one)
