-- Dense ranks by counts: as many values stand below a cell in the counts as distinct cells do in the rows.
use Rattle.std.proofs.Common.{◌≡◌, ℕ, ◌+◌, Bool, true, false, cond, not, List, [], ◌∷◌, ◌++◌, Option, Some, None, pos, length, map, filter, refl, sym, ap, ◌∙◌, arith, append-nil}
use Rattle.std.specs.Prelude.{T, ◌&&◌, ◌||◌, is_some}
use Rattle.std.specs.List.{list_any, cons_option}
use Rattle.std.specs.Option.{option_and_then, option_map}
use Rattle.std.specs.Ordering.{eq_by_cmp, is_lt}
use Rattle.std.specs.FinMap as finite
use Rattle.std.specs.FinMap.{FinMap}
use Rattle.std.proofs.lemmas.List.{length-append}
use Rattle.std.proofs.lemmas.List.Elements.{filter-append}
use Rattle.std.proofs.lemmas.List.Folds.{list_any-append}
use Rattle.df_value.specs.CellEq.{cell_eq, cell_eq-Decides}
use Rattle.df_value.specs.CellOrder.{cell_cmp, cell_cmp_total}
use Rattle.df_value.specs.Rows.{cell_at, row_eq}
use Rattle.df_value.specs.declared.cell.Cell.{Cell}
use Rattle.df_value.specs.declared.cell.Cell.TheVariants as cell
use Rattle.df_expr.specs.Value.{is_null}
use Rattle.df_ops.specs.Groups.{distinct_after, key_of}
use Rattle.df_ops.specs.Ranks.{dense_rank_of, distinct_at, is_smaller}
use Rattle.df_ops.specs.declared.ranks.RankKind.TheVariants as rank
use Rattle.df_counts.specs.Counts.{AreCounts, some_count, value_count}
use Rattle.df_counts.proofs.Orders.{cell_same, ties_where_equal}
use Rattle.df_delta.specs.Collected.{collected_list}
use Rattle.df_delta.proofs.Collected.{find-collected, is_sorted-collected}
use Rattle.df_ranks.specs.Counts.{weight_below}
use Rattle.df_ranks.proofs.RowSums.{total}
use Rattle.df_ranks.proofs.WeightSums.{weight_at, weights_total}

abbrev Rows : Type 0
Rows = List (List Cell)

-- a count of what passes is there where something passes
pub some_any : {X : Type 0} (p : X → Bool) (xs : List X) → is_some (some_count (length (filter p xs))) ≡ list_any p xs
some_any p [] = refl
some_any p (x ∷ xs) = elim (p x) as (λ b. is_some (some_count (length (cond b (x ∷ filter p xs) (filter p xs)))) ≡ (b || list_any p xs)) [ true ↦ refl | false ↦ some_any p xs ]

or_false : (b : Bool) → (b || false) ≡ b
or_false true = refl
or_false false = refl

or_true : (b : Bool) → (b || true) ≡ true
or_true true = refl
or_true false = refl

and_false : (b : Bool) → (b && false) ≡ false
and_false true = refl
and_false false = refl

same_tests : (u v : Cell) → eq_by_cmp cell_cmp u v ≡ cell_eq u v
same_tests u v = ties_where_equal u v

turned : (u v : Cell) → cell_eq u v ≡ cell_eq v u
turned u v = by_test (cell_eq u v) (cell_eq v u) refl refl where
  by_test : (a b : Bool) → cell_eq u v ≡ a → cell_eq v u ≡ b → a ≡ b
  by_test true true e f = refl
  by_test true false e f = sym ((cell_eq-Decides v u).1 (sym ((cell_eq-Decides u v).0 e))) ∙ f
  by_test false true e f = sym e ∙ (cell_eq-Decides u v).1 (sym ((cell_eq-Decides v u).0 f))
  by_test false false e f = refl

module _ (index : Option ℕ) (c : Cell) where
  -- whether a cell is a value below c
  abbrev smaller : Cell → Bool
  smaller v = is_smaller c (v ∷ [])

  abbrev next_set : FinMap cell_cmp Bool → List Cell → FinMap cell_cmp Bool
  next_set s r = cond (smaller (cell_at index r)) (finite.insert s (cell_at index r) true) s

  -- the smaller values of rows, as a set
  abbrev gathered : Rows → FinMap cell_cmp Bool → FinMap cell_cmp Bool
  gathered [] s = s
  gathered (r ∷ rs) s = gathered rs (next_set s r)

  -- the set has the smaller ones of the keys seen
  record IsSet (seen : Rows) (s : FinMap cell_cmp Bool) : Type 0 where
    at : (u : Cell) → smaller u ≡ true → list_any (row_eq (u ∷ [])) seen ≡ is_some (finite.get s u)
    len : length (filter (is_smaller c) seen) ≡ finite.len s

  inserted : (s : FinMap cell_cmp Bool) (v u : Cell) → is_some (finite.get (finite.insert s v true) u) ≡ cond (cell_eq u v) true (is_some (finite.get s u))
  inserted s v u =
      ap is_some (finite.get-insert cell_cmp_total s v true u) ∙ ap (λ b. is_some (cond b (Some true) (finite.get s u))) (same_tests u v)
      ∙ elim (cell_eq u v) as (λ b. is_some (cond b (Some true) (finite.get s u)) ≡ cond b true (is_some (finite.get s u))) [ true ↦ refl | false ↦ refl ]

  pushed : (seen : Rows) (v u : Cell) → list_any (row_eq (u ∷ [])) (seen ++ (v ∷ []) ∷ []) ≡ (list_any (row_eq (u ∷ [])) seen || cell_eq u v)
  pushed seen v u =
      list_any-append (row_eq (u ∷ [])) seen ((v ∷ []) ∷ [])
      ∙ elim (cell_eq u v) as (λ b. (list_any (row_eq (u ∷ [])) seen || ((b && true) || false)) ≡ (list_any (row_eq (u ∷ [])) seen || b)) [ true ↦ refl | false ↦ refl ]

  module _ (seen : Rows) (s : FinMap cell_cmp Bool) (set : IsSet seen s) (v : Cell) where
    again : list_any (row_eq (v ∷ [])) seen ≡ true → smaller v ≡ true → IsSet seen (finite.insert s v true)
    again there small = record {
      at = λ u e. by_test u (cell_eq u v) refl e ∙ sym (inserted s v u);
      len = set.len ∙ sym (finite.len-insert cell_cmp_total s v true ∙ ap (λ b. cond b (finite.len s) (finite.len s + 1)) (sym (set.at v small) ∙ there));
    } where
      by_test : (u : Cell) (b : Bool) → cell_eq u v ≡ b → smaller u ≡ true → list_any (row_eq (u ∷ [])) seen ≡ cond (cell_eq u v) true (is_some (finite.get s u))
      by_test u true t e = ap (λ z. list_any (row_eq (z ∷ [])) seen) ((cell_eq-Decides u v).0 t) ∙ there ∙ sym (ap (λ b. cond b true (is_some (finite.get s u))) t)
      by_test u false t e = set.at u e ∙ sym (ap (λ b. cond b true (is_some (finite.get s u))) t)

    first : list_any (row_eq (v ∷ [])) seen ≡ false → smaller v ≡ true → IsSet (seen ++ (v ∷ []) ∷ []) (finite.insert s v true)
    first missing small = record {
      at = λ u e. pushed seen v u ∙ by_test u (cell_eq u v) refl e ∙ sym (inserted s v u);
      len = counted ∙ sym (finite.len-insert cell_cmp_total s v true ∙ ap (λ b. cond b (finite.len s) (finite.len s + 1)) (sym (set.at v small) ∙ missing));
    } where
      by_test : (u : Cell) (b : Bool) → cell_eq u v ≡ b → smaller u ≡ true → (list_any (row_eq (u ∷ [])) seen || cell_eq u v) ≡ cond (cell_eq u v) true (is_some (finite.get s u))
      by_test u true t e = ap (λ b. list_any (row_eq (u ∷ [])) seen || b) t ∙ or_true _ ∙ sym (ap (λ b. cond b true (is_some (finite.get s u))) t)
      by_test u false t e = ap (λ b. list_any (row_eq (u ∷ [])) seen || b) t ∙ or_false _ ∙ set.at u e ∙ sym (ap (λ b. cond b true (is_some (finite.get s u))) t)

      counted : length (filter (is_smaller c) (seen ++ (v ∷ []) ∷ [])) ≡ finite.len s + 1
      counted =
          ap length (filter-append (is_smaller c) seen ((v ∷ []) ∷ []))
          ∙ length-append (filter (is_smaller c) seen) (filter (is_smaller c) ((v ∷ []) ∷ []))
          ∙ ap (λ b. length (filter (is_smaller c) seen) + length (cond b ((v ∷ []) ∷ []) [])) small
          ∙ ap (λ n. n + 1) set.len

    other : smaller v ≡ false → IsSet (seen ++ (v ∷ []) ∷ []) s
    other large = record {
      at = λ u e. pushed seen v u ∙ by_test u (cell_eq u v) refl e;
      len =
          ap length (filter-append (is_smaller c) seen ((v ∷ []) ∷ []) ∙ ap (λ b. filter (is_smaller c) seen ++ cond b ((v ∷ []) ∷ []) []) large ∙ append-nil (filter (is_smaller c) seen))
          ∙ set.len;
    } where
      by_test : (u : Cell) (b : Bool) → cell_eq u v ≡ b → smaller u ≡ true → (list_any (row_eq (u ∷ [])) seen || cell_eq u v) ≡ is_some (finite.get s u)
      by_test u true t e = let f : true ≡ false = sym e ∙ ap smaller ((cell_eq-Decides u v).0 t) ∙ large in cc f
      by_test u false t e = ap (λ b. list_any (row_eq (u ∷ [])) seen || b) t ∙ or_false _ ∙ set.at u e

  -- as many distinct keys are smaller as the set has values
  counted_distinct : (rs seen : Rows) (s : FinMap cell_cmp Bool) → IsSet seen s → length (filter (is_smaller c) (distinct_after seen (map (key_of (index ∷ [])) rs))) ≡ finite.len (gathered rs s)
  counted_distinct [] seen s set = set.len
  counted_distinct (r ∷ rs) seen s set = by_tests (list_any (row_eq (v ∷ [])) seen) (smaller v) refl refl (λ seen s set. counted_distinct rs seen s set) where
    v : Cell
    v = cell_at index r

    by_tests : (a b : Bool) → list_any (row_eq (cell_at index r ∷ [])) seen ≡ a → smaller (cell_at index r) ≡ b
        → ((seen : Rows) (s : FinMap cell_cmp Bool) → IsSet seen s → length (filter (is_smaller c) (distinct_after seen (map (key_of (index ∷ [])) rs))) ≡ finite.len (gathered rs s))
        → length (filter (is_smaller c) (cond a (distinct_after seen (map (key_of (index ∷ [])) rs)) (distinct_after (seen ++ (cell_at index r ∷ []) ∷ []) (map (key_of (index ∷ [])) rs))))
        ≡ finite.len (gathered rs (cond b (finite.insert s (cell_at index r) true) s))
    by_tests true true e f rest = rest seen (finite.insert s (cell_at index r) true) (again seen s set (cell_at index r) e f)
    by_tests true false e f rest = rest seen s set
    by_tests false true e f rest = rest (seen ++ (cell_at index r ∷ []) ∷ []) (finite.insert s (cell_at index r) true) (first seen s set (cell_at index r) e f)
    by_tests false false e f rest = rest (seen ++ (cell_at index r ∷ []) ∷ []) s (other seen s set (cell_at index r) f)

  -- what the set has
  get_gathered : (rs : Rows) (s : FinMap cell_cmp Bool) (u : Cell) → finite.get (gathered rs s) u ≡ cond (smaller u && list_any (λ r. cell_eq (cell_at index r) u) rs) (Some true) (finite.get s u)
  get_gathered [] s u = sym (ap (λ b. cond b (Some true) (finite.get s u)) (and_false (smaller u)))
  get_gathered (r ∷ rs) s u = get_gathered rs (next_set s r) u ∙ by_test (cell_eq (cell_at index r) u) (smaller u) refl refl where
    rest : Bool
    rest = list_any (λ r. cell_eq (cell_at index r) u) rs

    step : (b : Bool) → finite.get (cond b (finite.insert s (cell_at index r) true) s) u ≡ cond b (cond (cell_eq u (cell_at index r)) (Some true) (finite.get s u)) (finite.get s u)
    step true = finite.get-insert cell_cmp_total s (cell_at index r) true u ∙ ap (λ b. cond b (Some true) (finite.get s u)) (same_tests u (cell_at index r))
    step false = refl

    one : (b a : Bool) → cell_eq (cell_at index r) u ≡ a → finite.get (cond b (finite.insert s (cell_at index r) true) s) u ≡ cond b (cond a (Some true) (finite.get s u)) (finite.get s u)
    one b a e = step b ∙ ap (λ a. cond b (cond a (Some true) (finite.get s u)) (finite.get s u)) (turned u (cell_at index r) ∙ e)

    kept : (b : Bool) → cond b (finite.get s u) (finite.get s u) ≡ finite.get s u
    kept true = refl
    kept false = refl

    by_test : (a b : Bool) → cell_eq (cell_at index r) u ≡ a → smaller u ≡ b
        → cond (smaller u && list_any (λ r. cell_eq (cell_at index r) u) rs) (Some true) (finite.get (next_set s r) u) ≡ cond (smaller u && (cell_eq (cell_at index r) u || list_any (λ r. cell_eq (cell_at index r) u) rs)) (Some true) (finite.get s u)
    by_test true true e f =
        let small : smaller (cell_at index r) ≡ true = ap smaller ((cell_eq-Decides (cell_at index r) u).0 e) ∙ f in
        let here : finite.get (next_set s r) u ≡ Some true = ap (λ b. finite.get (cond b (finite.insert s (cell_at index r) true) s) u) small ∙ one true true e in
        ap (λ b. cond (b && list_any (λ r. cell_eq (cell_at index r) u) rs) (Some true) (finite.get (next_set s r) u)) f
        ∙ ap (λ o. cond (list_any (λ r. cell_eq (cell_at index r) u) rs) (Some true) o) here
        ∙ both (list_any (λ r. cell_eq (cell_at index r) u) rs)
        ∙ sym (ap (λ b. cond (b && (cell_eq (cell_at index r) u || list_any (λ r. cell_eq (cell_at index r) u) rs)) (Some true) (finite.get s u)) f ∙ ap (λ b. cond (b || list_any (λ r. cell_eq (cell_at index r) u) rs) (Some true) (finite.get s u)) e)
      where
        both : (b : Bool) → cond b (Some true) (Some true) ≡ Some true
        both true = refl
        both false = refl
    by_test true false e f =
        let large : smaller (cell_at index r) ≡ false = ap smaller ((cell_eq-Decides (cell_at index r) u).0 e) ∙ f in
        ap (λ b. cond (b && list_any (λ r. cell_eq (cell_at index r) u) rs) (Some true) (finite.get (next_set s r) u)) f
        ∙ ap (λ b. finite.get (cond b (finite.insert s (cell_at index r) true) s) u) large
        ∙ sym (ap (λ b. cond (b && (cell_eq (cell_at index r) u || list_any (λ r. cell_eq (cell_at index r) u) rs)) (Some true) (finite.get s u)) f)
    by_test false b e f =
        ap (cond (smaller u && list_any (λ r. cell_eq (cell_at index r) u) rs) (Some true)) (one (smaller (cell_at index r)) false e ∙ kept (smaller (cell_at index r)))
        ∙ ap (λ a. cond (smaller u && (a || list_any (λ r. cell_eq (cell_at index r) u) rs)) (Some true) (finite.get s u)) (sym e)

  -- the values of the counts that are below c
  abbrev mark_below : Cell → ℕ → Option Bool
  mark_below k n = cond (is_lt (cell_cmp k c)) (Some true) None

  marks_total : (es : List (Cell × ℕ)) → length (collected_list mark_below es) ≡ total (weight_at rank.Dense c) es
  marks_total [] = refl
  marks_total (e ∷ es) =
      let rest = marks_total es in
      elim (is_lt (cell_cmp e.0 c)) as (λ b. length (cons_option (option_map (λ y. (e.0, y)) (cond b (Some true) None)) (collected_list mark_below es)) ≡ cond b 1 0 + total (weight_at rank.Dense c) es) [ true ↦ omega (arith, rest) | false ↦ omega (arith, rest) ]

  module _ (rows : Rows) (counts : List (Cell × ℕ)) (sorted : T (finite.is_sorted cell_cmp counts)) (are : AreCounts counts index rows) where
    at_value : (u : Cell) → cond (smaller u && list_any (λ r. cell_eq (cell_at index r) u) rows) (Some true) None ≡ option_and_then (mark_below u) (some_count (value_count index rows u))
    at_value u = by_null (is_null u) where
      marked : (b : Bool) (o : Option ℕ) → cond (b && is_some o) (Some true) None ≡ option_and_then (λ n. cond b (Some true) None) o
      marked true None = refl
      marked true (Some n) = refl
      marked false None = refl
      marked false (Some n) = refl

      by_null : (m : Bool) → cond ((not m && is_lt (cell_cmp u c)) && list_any (λ r. cell_eq (cell_at index r) u) rows) (Some true) None
          ≡ option_and_then (mark_below u) (some_count (cond m 0 (length (filter (λ r. cell_eq (cell_at index r) u) rows))))
      by_null true = refl
      by_null false = ap (λ b. cond (is_lt (cell_cmp u c) && b) (Some true) None) (sym (some_any (λ r. cell_eq (cell_at index r) u) rows)) ∙ marked (is_lt (cell_cmp u c)) (some_count (length (filter (λ r. cell_eq (cell_at index r) u) rows)))

    same_set : gathered rows finite.empty ≡ finite.from_sorted (collected_list mark_below counts)
    same_set = finite.same_map cell_cmp_total cell_same _ _ (λ u.
        get_gathered rows finite.empty u
        ∙ ap (λ o. cond (smaller u && list_any (λ r. cell_eq (cell_at index r) u) rows) (Some true) o) (finite.get-empty cell_cmp u)
        ∙ at_value u
        ∙ ap (option_and_then (mark_below u)) (sym (are.at u))
        ∙ sym (finite.get-from_sorted cell_cmp (collected_list mark_below counts) u (is_sorted-collected cell_cmp mark_below counts sorted) ∙ find-collected cell_cmp mark_below cell_same u counts sorted))

    smaller_count : length (filter (is_smaller c) (distinct_at index rows)) ≡ weight_below rank.Dense counts c
    smaller_count =
        counted_distinct rows [] finite.empty (record { at = λ u e. ap is_some (sym (finite.get-empty cell_cmp u)); len = sym (finite.len-empty cell_cmp Bool) })
        ∙ ap finite.len same_set
        ∙ finite.len-entries _ ∙ ap length (finite.entries-from_sorted cell_cmp _ (is_sorted-collected cell_cmp mark_below counts sorted))
        ∙ marks_total counts ∙ sym (weights_total rank.Dense counts c)

    pub dense_by_counts : dense_rank_of (distinct_at index rows) c ≡ cond (is_null c) cell.Null (cell.Int (pos (1 + weight_below rank.Dense counts c)))
    dense_by_counts = ap (λ n. cond (is_null c) cell.Null (cell.Int (pos (1 + n)))) smaller_count
