-- Ranks of the kind `Min` by counts: the rows whose value is below a cell are those that the counts below it count.
use Rattle.std.proofs.Common.{◌≡◌, ℕ, zero, suc, ◌+◌, ◌%◌, ◌^◌, ◌≤◌, Bool, true, false, cond, not, List, [], ◌∷◌, Option, Some, None, pos, length, filter, refl, sym, ap, ◌∙◌, arith, subst}
use Rattle.std.specs.Prelude.{T, ◌&&◌, unwrap_or}
use Rattle.std.specs.Ordering.{eq_by_cmp, is_lt}
use Rattle.std.specs.FinMap.{find, is_sorted, put}
use Rattle.std.specs.declared.cmp.Ordering.TheVariants.{Less, Equal, Greater}
use Rattle.std.specs.FinMap.Entries.{by_order, find-put, is_sorted-put, same_entries}
use Rattle.df_value.specs.CellEq.{cell_eq, cell_eq-Decides}
use Rattle.df_value.specs.CellOrder.{cell_cmp, cell_cmp_total}
use Rattle.df_value.specs.Rows.{cell_at}
use Rattle.df_value.specs.declared.cell.Cell.{Cell}
use Rattle.df_value.specs.declared.cell.Cell.TheVariants as cell
use Rattle.df_expr.specs.Value.{is_null}
use Rattle.df_ops.specs.Ranks.{count_below, is_below, min_rank_of}
use Rattle.df_ops.specs.declared.ranks.RankKind.TheVariants as rank
use Rattle.df_counts.specs.Counts.{AreCounts, some_count, value_count}
use Rattle.df_counts.proofs.Orders.{cell_same, ties_where_equal}
use Rattle.df_ranks.specs.Counts.{counted_rank, weight_below}
use Rattle.df_ranks.proofs.RowSums.{part, total, total_put}
use Rattle.df_ranks.proofs.WeightSums.{dense_few, weight_at, weights_total}

abbrev Rows : Type 0
Rows = List (List Cell)

-- the counts of rows, one row after the other
abbrev bumped : Cell → List (Cell × ℕ) → List (Cell × ℕ)
bumped v es = cond (is_null v) es (put cell_cmp v (unwrap_or (find cell_cmp v es) 0 + 1) es)

abbrev tally : Option ℕ → Rows → List (Cell × ℕ)
tally index [] = []
tally index (r ∷ rs) = bumped (cell_at index r) (tally index rs)

module _ (index : Option ℕ) where
  tally_sorted : (rows : Rows) → T (is_sorted cell_cmp (tally index rows))
  tally_sorted [] = tt
  tally_sorted (r ∷ rs) = by_null (tally_sorted rs) (is_null (cell_at index r)) where
    by_null : T (is_sorted cell_cmp (tally index rs)) → (m : Bool) → T (is_sorted cell_cmp (cond m (tally index rs) (put cell_cmp (cell_at index r) (unwrap_or (find cell_cmp (cell_at index r) (tally index rs)) 0 + 1) (tally index rs))))
    by_null rest true = rest
    by_null rest false = is_sorted-put cell_cmp cell_cmp_total (cell_at index r) _ (tally index rs) rest

  value_of_count : (n : ℕ) → unwrap_or (some_count n) 0 ≡ n
  value_of_count zero = refl
  value_of_count (suc n) = refl

  some_more : (n : ℕ) → Some (n + 1) ≡ some_count (suc n)
  some_more n = let e : n + 1 ≡ suc n = omega arith in ap Some e

  -- what is found are the counts of the values
  find_tally : (rows : Rows) (u : Cell) → find cell_cmp u (tally index rows) ≡ some_count (value_count index rows u)
  find_tally [] u = elim (is_null u) as (λ m. None ≡ some_count (cond m 0 0)) [ true ↦ refl | false ↦ refl ]
  find_tally (r ∷ rs) u = by_tests (find_tally rs u) (is_null (cell_at index r)) (is_null u) (cell_eq (cell_at index r) u) refl refl refl where
    next : ℕ
    next = unwrap_or (find cell_cmp (cell_at index r) (tally index rs)) 0 + 1

    nulls : cell_eq (cell_at index r) u ≡ true → is_null (cell_at index r) ≡ is_null u
    nulls e = ap is_null ((cell_eq-Decides (cell_at index r) u).0 e)

    flipped : (b : Bool) → cell_eq (cell_at index r) u ≡ b → eq_by_cmp cell_cmp u (cell_at index r) ≡ b
    flipped b e = ties_where_equal u (cell_at index r) ∙ turned (cell_eq u (cell_at index r)) b refl e where
      turned : (a b : Bool) → cell_eq u (cell_at index r) ≡ a → cell_eq (cell_at index r) u ≡ b → a ≡ b
      turned true true e f = refl
      turned true false e f = sym ((cell_eq-Decides (cell_at index r) u).1 (sym ((cell_eq-Decides u (cell_at index r)).0 e))) ∙ f
      turned false true e f = sym e ∙ (cell_eq-Decides u (cell_at index r)).1 (sym ((cell_eq-Decides (cell_at index r) u).0 f))
      turned false false e f = refl

    by_tests : find cell_cmp u (tally index rs) ≡ some_count (cond (is_null u) 0 (length (filter (λ r. cell_eq (cell_at index r) u) rs))) → (m n e : Bool) → is_null (cell_at index r) ≡ m → is_null u ≡ n → cell_eq (cell_at index r) u ≡ e
        → find cell_cmp u (cond m (tally index rs) (put cell_cmp (cell_at index r) next (tally index rs)))
        ≡ some_count (cond n 0 (length (cond e (r ∷ filter (λ r. cell_eq (cell_at index r) u) rs) (filter (λ r. cell_eq (cell_at index r) u) rs))))
    by_tests rest true true e p q s = rest ∙ ap (λ n. some_count (cond n 0 (length (filter (λ r. cell_eq (cell_at index r) u) rs)))) q
    by_tests rest true false true p q s = let f : true ≡ false = sym p ∙ nulls s ∙ q in cc f
    by_tests rest true false false p q s = rest ∙ ap (λ n. some_count (cond n 0 (length (filter (λ r. cell_eq (cell_at index r) u) rs)))) q
    by_tests rest false true true p q s = let f : true ≡ false = sym q ∙ sym (nulls s) ∙ p in cc f
    by_tests rest false true false p q s =
        find-put cell_cmp cell_cmp_total u (cell_at index r) next (tally index rs)
        ∙ ap (λ b. cond b (Some next) (find cell_cmp u (tally index rs))) (flipped false s)
        ∙ rest ∙ ap (λ n. some_count (cond n 0 (length (filter (λ r. cell_eq (cell_at index r) u) rs)))) q
    by_tests rest false false true p q s =
        find-put cell_cmp cell_cmp_total u (cell_at index r) next (tally index rs)
        ∙ ap (λ b. cond b (Some next) (find cell_cmp u (tally index rs))) (flipped true s)
        ∙ ap (λ z. Some (unwrap_or (find cell_cmp z (tally index rs)) 0 + 1)) ((cell_eq-Decides (cell_at index r) u).0 s)
        ∙ ap (λ o. Some (unwrap_or o 0 + 1)) (rest ∙ ap (λ n. some_count (cond n 0 (length (filter (λ r. cell_eq (cell_at index r) u) rs)))) q)
        ∙ ap (λ n. Some (n + 1)) (value_of_count (length (filter (λ r. cell_eq (cell_at index r) u) rs)))
        ∙ some_more (length (filter (λ r. cell_eq (cell_at index r) u) rs))
    by_tests rest false false false p q s =
        find-put cell_cmp cell_cmp_total u (cell_at index r) next (tally index rs)
        ∙ ap (λ b. cond b (Some next) (find cell_cmp u (tally index rs))) (flipped false s)
        ∙ rest ∙ ap (λ n. some_count (cond n 0 (length (filter (λ r. cell_eq (cell_at index r) u) rs)))) q

  -- there are at most as many values as rows
  put_few : (v : Cell) (n : ℕ) (es : List (Cell × ℕ)) → length (put cell_cmp v n es) ≤ suc (length es)
  put_few v n [] = omega arith
  put_few v n (e ∷ es) =
      let rest = put_few v n es in
      elim (cell_cmp v e.0) as (λ r. length (by_order r ((v, n) ∷ e ∷ es) ((e.0, n) ∷ es) (e ∷ put cell_cmp v n es)) ≤ suc (suc (length es))) [ Less ↦ omega arith | Equal ↦ omega arith | Greater ↦ omega (arith, rest) ]

  few_tally : (rows : Rows) → length (tally index rows) ≤ length rows
  few_tally [] = omega arith
  few_tally (r ∷ rs) = by_null (few_tally rs) (is_null (cell_at index r)) where
    by_null : length (tally index rs) ≤ length rs → (m : Bool) → length (cond m (tally index rs) (put cell_cmp (cell_at index r) (unwrap_or (find cell_cmp (cell_at index r) (tally index rs)) 0 + 1) (tally index rs))) ≤ suc (length rs)
    by_null rest true = omega (arith, rest)
    by_null rest false = let more = put_few (cell_at index r) (unwrap_or (find cell_cmp (cell_at index r) (tally index rs)) 0 + 1) (tally index rs) in omega (arith, rest, more)

  counted_few : (rows : Rows) (counts : List (Cell × ℕ)) → T (is_sorted cell_cmp counts) → AreCounts counts index rows → length counts ≤ length rows
  counted_few rows counts sorted are =
      subst (λ es. length es ≤ length rows) (same_entries cell_cmp cell_cmp_total cell_same _ _ (tally_sorted rows) sorted (λ u. find_tally rows u ∙ sym (are.at u))) (few_tally rows)

  -- so the modulus of a dense rank changes nothing
  pub dense_small : (c : Cell) (rows : Rows) (counts : List (Cell × ℕ)) → T (is_sorted cell_cmp counts) → AreCounts counts index rows → length rows ≤ 2 ^ 60 → weight_below rank.Dense counts c ≡ weight_below rank.Dense counts c % 2 ^ 62
  dense_small c rows counts sorted are few =
      let values = counted_few rows counts sorted are in
      let below = subst (λ n. n ≤ length counts) (sym (weights_total rank.Dense counts c)) (dense_few c counts) in
      kept (weight_below rank.Dense counts c) (length counts) (length rows) below values few
    where
      kept : (n m k : ℕ) → n ≤ m → m ≤ k → k ≤ 2 ^ 60 → n ≡ n % 2 ^ 62
      kept n m k h g f = omega (arith, h, g, f)

  module _ (c : Cell) where
    -- one row more with a value below c
    bumped_total : (v : Cell) (es : List (Cell × ℕ)) → T (is_sorted cell_cmp es) → is_null v ≡ false → total (weight_at rank.Min c) (put cell_cmp v (unwrap_or (find cell_cmp v es) 0 + 1) es) ≡ total (weight_at rank.Min c) es + cond (is_lt (cell_cmp v c)) 1 0
    bumped_total v es h value =
        by_order (is_lt (cell_cmp v c)) (find cell_cmp v es) (total (weight_at rank.Min c) (put cell_cmp v (unwrap_or (find cell_cmp v es) 0 + 1) es)) (total (weight_at rank.Min c) es)
        (total_put cell_cmp_total cell_same (weight_at rank.Min c) v (unwrap_or (find cell_cmp v es) 0 + 1) es h)
      where
        by_order : (b : Bool) (o : Option ℕ) (new old : ℕ) → new + part (λ (e : Cell × ℕ). cond b e.1 0) v o ≡ old + cond b (unwrap_or o 0 + 1) 0 → new ≡ old + cond b 1 0
        by_order true None new old e = omega (arith, e)
        by_order true (Some n) new old e = omega (arith, e)
        by_order false None new old e = omega (arith, e)
        by_order false (Some n) new old e = omega (arith, e)

    tally_total : (rows : Rows) → count_below index rows c ≡ total (weight_at rank.Min c) (tally index rows)
    tally_total [] = refl
    tally_total (r ∷ rs) = by_null (tally_total rs) (is_null (cell_at index r)) refl (is_lt (cell_cmp (cell_at index r) c)) refl where
      by_null : length (filter (λ r. is_below c (cell_at index r)) rs) ≡ total (weight_at rank.Min c) (tally index rs) → (m : Bool) → is_null (cell_at index r) ≡ m → (b : Bool) → is_lt (cell_cmp (cell_at index r) c) ≡ b
          → length (cond (not m && b) (r ∷ filter (λ r. is_below c (cell_at index r)) rs) (filter (λ r. is_below c (cell_at index r)) rs))
          ≡ total (weight_at rank.Min c) (cond m (tally index rs) (put cell_cmp (cell_at index r) (unwrap_or (find cell_cmp (cell_at index r) (tally index rs)) 0 + 1) (tally index rs)))
      by_null rest true p b q = rest
      by_null rest false p true q =
          let more : total (weight_at rank.Min c) (tally index rs) + 1 ≡ total (weight_at rank.Min c) (put cell_cmp (cell_at index r) (unwrap_or (find cell_cmp (cell_at index r) (tally index rs)) 0 + 1) (tally index rs)) =
          ap (λ b. total (weight_at rank.Min c) (tally index rs) + cond b 1 0) (sym q) ∙ sym (bumped_total (cell_at index r) (tally index rs) (tally_sorted rs) p) in
          omega (arith, rest, more)
      by_null rest false p false q =
          let same : total (weight_at rank.Min c) (tally index rs) + 0 ≡ total (weight_at rank.Min c) (put cell_cmp (cell_at index r) (unwrap_or (find cell_cmp (cell_at index r) (tally index rs)) 0 + 1) (tally index rs)) =
          ap (λ b. total (weight_at rank.Min c) (tally index rs) + cond b 1 0) (sym q) ∙ sym (bumped_total (cell_at index r) (tally index rs) (tally_sorted rs) p) in
          omega (arith, rest, same)

    few_below : (rows : Rows) → count_below index rows c ≤ length rows
    few_below [] = omega arith
    few_below (r ∷ rs) =
        let rest = few_below rs in
        elim (is_below c (cell_at index r)) as (λ b. length (cond b (r ∷ filter (λ r. is_below c (cell_at index r)) rs) (filter (λ r. is_below c (cell_at index r)) rs)) ≤ suc (length rs)) [ true ↦ omega (arith, rest) | false ↦ omega (arith, rest) ]

    pub min_by_counts : (rows : Rows) (counts : List (Cell × ℕ)) → T (is_sorted cell_cmp counts) → AreCounts counts index rows → length rows ≤ 2 ^ 60 → min_rank_of index rows c ≡ counted_rank rank.Min counts c
    min_by_counts rows counts sorted are few = ap (λ n. cond (is_null c) cell.Null (cell.Int (pos (1 + n)))) (small (few_below rows) ∙ ap (λ n. n % 2 ^ 62) number) where
      same : tally index rows ≡ counts
      same = same_entries cell_cmp cell_cmp_total cell_same _ _ (tally_sorted rows) sorted (λ u. find_tally rows u ∙ sym (are.at u))

      number : count_below index rows c ≡ weight_below rank.Min counts c
      number = tally_total rows ∙ ap (total (weight_at rank.Min c)) same ∙ sym (weights_total rank.Min counts c)

      small : count_below index rows c ≤ length rows → count_below index rows c ≡ count_below index rows c % 2 ^ 62
      small within = kept (count_below index rows c) (length rows) within few where
        kept : (n m : ℕ) → n ≤ m → m ≤ 2 ^ 60 → n ≡ n % 2 ^ 62
        kept n m h g = omega (arith, h, g)
