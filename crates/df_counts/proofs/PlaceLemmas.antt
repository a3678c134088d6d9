-- Where a value stands in counts by rising value: what is found there, and what edits at that place make.
use Rattle.std.proofs.Common.{◌≡◌, ◌<◌, ℕ, zero, suc, true, false, List, [], ◌∷◌, ◌++◌, Some, None, length, refl, sym, ap, ◌∙◌, arith, subst}
use Rattle.std.specs.Prelude.{T, take, drop, slice_get, slice_set}
use Rattle.std.specs.List.{AllByRecursion, insert, remove}
use Rattle.std.specs.Ordering.{is_lt}
use Rattle.std.specs.declared.cmp.Ordering.{Ordering}
use Rattle.std.specs.declared.cmp.Ordering.TheVariants.{Less, Equal, Greater}
use Rattle.std.specs.FinMap.{find, is_sorted}
use Rattle.std.specs.FinMap.Entries.{below_all}
use Rattle.std.proofs.lemmas.List.{take-append-drop}
use Rattle.df_value.specs.CellOrder.{cell_cmp, cell_cmp_total}
use Rattle.df_value.specs.declared.cell.Cell.{Cell}
use Rattle.df_column.specs.Changes.{all_under, edit}
use Rattle.df_column.proofs.Bools.{T-first, T-second, T-both, is_lt_from_less, less_from_is_lt, not_less, false_from_T}
use Rattle.df_tree.specs.Partitions.{IsPartitioned, IsPlace}
use Rattle.df_counts.specs.Counts.{some_count}
use Rattle.df_counts.specs.Places.{is_below, IsGap, IsThere}
use Rattle.df_counts.proofs.Edits.{none_stays, put_between, put_here, removed_here}
use Rattle.df_counts.proofs.Lookups.{below_more, find_here, find_none, flipped}
use Rattle.df_counts.proofs.Orders.{cell_same}

-- in entries by rising value those below a value stand in front
none_later : (v w : Cell) (es : List (Cell × ℕ)) → is_lt (cell_cmp w v) ≡ false → T (below_all cell_cmp w es) → AllByRecursion (λ e. is_below v e ≡ false) es
none_later v w [] f h = tt
none_later v w (e ∷ es) f h = (
  false_from_T (is_lt (cell_cmp e.0 v)) (not_less (cell_cmp e.0 v) (λ p. subst T f (is_lt_from_less _ (cell_cmp_total.trans w e.0 v (less_from_is_lt _ (T-first _ _ h)) p)))),
  none_later v w es f (T-second _ _ h),
)

pub partitioned : (v : Cell) (es : List (Cell × ℕ)) → T (is_sorted cell_cmp es) → IsPartitioned {I = Cell × ℕ} (is_below v) es
partitioned v [] h = tt
partitioned v (e ∷ es) h = (λ f. none_later v e.0 es f (T-first _ _ h), partitioned v es (T-second _ _ h))

under : (v : Cell) (es : List (Cell × ℕ)) → AllByRecursion (λ e. is_below v e ≡ true) es → T (all_under cell_cmp v es)
under v [] h = tt
under v (e ∷ es) h = T-both _ _ (subst T (sym h.0) tt) (under v es h.1)

sorted_drop : (es : List (Cell × ℕ)) (n : ℕ) → T (is_sorted cell_cmp es) → T (is_sorted cell_cmp (drop n es))
sorted_drop es zero h = h
sorted_drop [] (suc n) h = h
sorted_drop (e ∷ es) (suc n) h = sorted_drop es n (T-second _ _ h)

drop_at : {X : Type 0} (xs : List X) (n : ℕ) (x : X) → slice_get xs n ≡ Some x → drop n xs ≡ x ∷ drop (suc n) xs
drop_at [] n x e = cc e
drop_at (y ∷ xs) zero x e = let is : y ≡ x = cc e in ap (λ y. y ∷ xs) is
drop_at (y ∷ xs) (suc n) x e = drop_at xs n x e

drop_none : {X : Type 0} (xs : List X) (n : ℕ) → n ≡ length xs → drop n xs ≡ []
drop_none [] zero h = refl
drop_none [] (suc n) h = refl
drop_none (x ∷ xs) zero h = absurd (omega (arith, h))
drop_none (x ∷ xs) (suc n) h = drop_none xs n (omega (arith, h))

set_cut : {X : Type 0} (xs : List X) (n : ℕ) (x : X) → n < length xs → slice_set xs n x ≡ take n xs ++ x ∷ drop (suc n) xs
set_cut [] n x h = absurd (omega (arith, h))
set_cut (y ∷ xs) zero x h = refl
set_cut (y ∷ xs) (suc n) x h = ap (λ l. y ∷ l) (set_cut xs n x (omega (arith, h)))

get_in : {X : Type 0} (xs : List X) (n : ℕ) (x : X) → slice_get xs n ≡ Some x → n < length xs
get_in [] n x e = cc e
get_in (y ∷ xs) zero x e = omega arith
get_in (y ∷ xs) (suc n) x e = let h = get_in xs n x e in omega (arith, h)

tie_of : (v w : Cell) → is_lt (cell_cmp w v) ≡ false → is_lt (cell_cmp v w) ≡ false → Equal ≡ cell_cmp v w
tie_of v w f g = by_order (cell_cmp v w) refl where
  by_order : (r : Ordering) → cell_cmp v w ≡ r → Equal ≡ cell_cmp v w
  by_order Less a = let no : true ≡ false = sym (ap is_lt a) ∙ g in cc no
  by_order Equal a = sym a
  by_order Greater a = let no : true ≡ false = sym (ap is_lt (flipped cell_cmp_total v w Greater a)) ∙ f in cc no

module _ (es : List (Cell × ℕ)) (n : ℕ) (v : Cell) (p : IsPlace {I = Cell × ℕ} (is_below v) es n) where
  in_front : T (all_under cell_cmp v (take n es))
  in_front = under v (take n es) p.before

  -- the entry at the place, if it is of the value, and else a gap
  module _ (e : Cell × ℕ) (at : slice_get es n ≡ Some e) where
    not_below : is_lt (cell_cmp e.0 v) ≡ false
    not_below = let all : AllByRecursion (λ e. is_below v e ≡ false) (e ∷ drop (suc n) es) = subst (λ l. AllByRecursion (λ e. is_below v e ≡ false) l) (drop_at es n e at) p.behind in all.0

    pub there_at : is_lt (cell_cmp v e.0) ≡ false → IsThere es n v
    there_at f = record { entry = e; back = drop (suc n) es; cut = drop_at es n e at; tie = tie_of v e.0 not_below f }

    pub gap_at : T (is_sorted cell_cmp es) → is_lt (cell_cmp v e.0) ≡ true → IsGap es n v
    gap_at h t =
        let behind : T (is_sorted cell_cmp (e ∷ drop (suc n) es)) = subst (λ l. T (is_sorted cell_cmp l)) (drop_at es n e at) (sorted_drop es n h) in
        let less = subst T (sym t) tt in
        subst (λ l. T (below_all cell_cmp v l)) (sym (drop_at es n e at)) (T-both _ _ less (below_more cell_cmp_total v e.0 (drop (suc n) es) (less_from_is_lt _ less) (T-first _ _ behind)))

  -- a value that is not there
  module _ (gap : IsGap es n v) where
    pub found_none : None ≡ find cell_cmp v es
    found_none = sym (find_none cell_cmp_total v (take n es) (drop n es) in_front gap) ∙ ap (find cell_cmp v) (take-append-drop n es)

    pub stays : es ≡ edit cell_cmp es v None
    stays = sym (take-append-drop n es) ∙ sym (none_stays cell_cmp_total (take n es) (drop n es) v in_front gap) ∙ ap (λ l. edit cell_cmp l v None) (take-append-drop n es)

    pub inserted : (c : ℕ) → insert es n (v, c) ≡ edit cell_cmp es v (Some c)
    inserted c = sym (put_between cell_cmp_total (take n es) (drop n es) v in_front gap c) ∙ ap (λ l. edit cell_cmp l v (Some c)) (take-append-drop n es)

  -- and one that is
  module _ (there : IsThere es n v) where
    cut : take n es ++ there.entry ∷ there.back ≡ es
    cut = ap (λ l. take n es ++ l) (sym there.cut) ∙ take-append-drop n es

    pub there_in : n < length es
    there_in = get_in es n there.entry (get_cut es n there.cut) where
      get_cut : (xs : List (Cell × ℕ)) (n : ℕ) → drop n xs ≡ there.entry ∷ there.back → slice_get xs n ≡ Some there.entry
      get_cut [] zero e = cc e
      get_cut [] (suc n) e = cc e
      get_cut (x ∷ xs) zero e = let is : x ≡ there.entry = cc e in ap (λ x. Some x) is
      get_cut (x ∷ xs) (suc n) e = get_cut xs n e

    module _ (e : Cell × ℕ) (at : slice_get es n ≡ Some e) where
      entry_is : there.entry ≡ e
      entry_is = let both : there.entry ∷ there.back ≡ e ∷ drop (suc n) es = sym there.cut ∙ drop_at es n e at in cc both

      pub found_here : Some e.1 ≡ find cell_cmp v es
      found_here = ap (λ e. Some e.1) (sym entry_is) ∙ sym (find_here cell_cmp_total v (take n es) there.back there.entry in_front there.tie) ∙ ap (find cell_cmp v) cut

      pub changed : (c : ℕ) → slice_set es n (e.0, c) ≡ edit cell_cmp es v (Some c)
      changed c =
          let back : there.back ≡ drop (suc n) es = let both : there.entry ∷ there.back ≡ e ∷ drop (suc n) es = sym there.cut ∙ drop_at es n e at in cc both in
          set_cut es n (e.0, c) (get_in es n e at)
          ∙ ap (λ l. take n es ++ (e.0, c) ∷ l) (sym back)
          ∙ ap (λ e. take n es ++ (e.0, c) ∷ there.back) (sym entry_is)
          ∙ sym (put_here cell_cmp_total (take n es) there.back v in_front there.entry there.tie c)
          ∙ ap (λ l. edit cell_cmp l v (Some c)) cut

    pub gone : T (is_sorted cell_cmp es) → remove es n ≡ edit cell_cmp es v None
    gone h =
        let behind : T (is_sorted cell_cmp (there.entry ∷ there.back)) = subst (λ l. T (is_sorted cell_cmp l)) there.cut (sorted_drop es n h) in
        let above : T (below_all cell_cmp v there.back) = subst (λ k. T (below_all cell_cmp k there.back)) (sym (cell_same v there.entry.0 (sym there.tie))) (T-first _ _ behind) in
        let back : drop (suc n) es ≡ there.back = drop_more es n there.cut in
        ap (λ l. take n es ++ l) back
        ∙ sym (removed_here cell_cmp_total (take n es) there.back v in_front there.entry there.tie above)
        ∙ ap (λ l. edit cell_cmp l v None) cut where
          drop_more : (xs : List (Cell × ℕ)) (n : ℕ) → drop n xs ≡ there.entry ∷ there.back → drop (suc n) xs ≡ there.back
          drop_more [] zero e = cc e
          drop_more [] (suc n) e = cc e
          drop_more (x ∷ xs) zero e = cc e
          drop_more (x ∷ xs) (suc n) e = drop_more xs n e

-- a count that is not 0
pub some_of : (n : ℕ) → (n ≡ 0 → ⊥) → Some n ≡ some_count n
some_of zero h = absurd (h refl)
some_of (suc n) h = refl
