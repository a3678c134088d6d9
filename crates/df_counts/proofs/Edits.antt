-- Entries by rising keys, of which those before a key stand in front, where that key is put or taken away.
use Rattle.std.proofs.Common.{◌≡◌, not, cond, List, [], ◌∷◌, ◌++◌, Option, Some, None, refl, sym, ap, ◌∙◌}
use Rattle.std.specs.Prelude.{T}
use Rattle.std.specs.Cmp.{IsTotalOrder}
use Rattle.std.specs.Ordering.{eq_by_cmp, is_eq}
use Rattle.std.specs.declared.cmp.Ordering.{Ordering}
use Rattle.std.specs.declared.cmp.Ordering.TheVariants.{Less, Equal, Greater}
use Rattle.std.specs.FinMap.{is_sorted, put}
use Rattle.std.specs.FinMap.Entries.{below_all, by_order, is_sorted-put, is_sorted-where_key}
use Rattle.df_column.specs.Changes.{all_under, edit}
use Rattle.df_column.proofs.Bools.{T-first, T-second, T-both, less_from_is_lt}
use Rattle.df_column.proofs.ChangeRuns.{after_changes-left}
use Rattle.df_counts.proofs.Lookups.{flipped}

module _ {K X : Type 0} {R : K → K → Ordering} (o : IsTotalOrder R) where
  pub sorted_edit : (es : List (K × X)) (k : K) (v : Option X) → T (is_sorted R es) → T (is_sorted R (edit R es k v))
  sorted_edit es k None h = is_sorted-where_key R (λ x. not (eq_by_cmp R k x)) es h
  sorted_edit es k (Some v) h = is_sorted-put R o k v es h

  edit_past : (e : K × X) (es : List (K × X)) (k : K) (v : Option X) → R k e.0 ≡ Greater → edit R (e ∷ es) k v ≡ e ∷ edit R es k v
  edit_past e es k None above = ap (λ r. cond (not (is_eq r)) (e ∷ edit R es k None) (edit R es k None)) above
  edit_past e es k (Some x) above = ap (λ r. by_order r ((k, x) ∷ e ∷ es) ((e.0, x) ∷ es) (e ∷ put R k x es)) above

  edit_behind : (xs ys : List (K × X)) (k : K) (v : Option X) → T (all_under R k xs) → edit R (xs ++ ys) k v ≡ xs ++ edit R ys k v
  edit_behind [] ys k v h = refl
  edit_behind (x ∷ xs) ys k v h = edit_past x (xs ++ ys) k v (flipped o x.0 k Less (less_from_is_lt _ (T-first _ _ h))) ∙ ap (λ l. x ∷ l) (edit_behind xs ys k v (T-second _ _ h))

  none_above : (k : K) (es : List (K × X)) → T (below_all R k es) → edit R es k None ≡ es
  none_above k es h = after_changes-left o [] es ((k, record { old = None; new = None }) ∷ []) (T-both _ _ h tt)

  put_above : (k : K) (x : X) (es : List (K × X)) → T (below_all R k es) → put R k x es ≡ (k, x) ∷ es
  put_above k x [] h = refl
  put_above k x (e ∷ es) h = ap (λ r. by_order r ((k, x) ∷ e ∷ es) ((e.0, x) ∷ es) (e ∷ put R k x es)) (less_from_is_lt _ (T-first _ _ h))

  module _ (xs ys : List (K × X)) (k : K) (under : T (all_under R k xs)) where
    -- a key that is not there
    module _ (above : T (below_all R k ys)) where
      pub none_stays : edit R (xs ++ ys) k None ≡ xs ++ ys
      none_stays = edit_behind xs ys k None under ∙ ap (λ l. xs ++ l) (none_above k ys above)

      pub put_between : (x : X) → edit R (xs ++ ys) k (Some x) ≡ xs ++ (k, x) ∷ ys
      put_between x = edit_behind xs ys k (Some x) under ∙ ap (λ l. xs ++ l) (put_above k x ys above)

    -- and one that is
    module _ (e : K × X) (tie : Equal ≡ R k e.0) where
      pub put_here : (x : X) → edit R (xs ++ e ∷ ys) k (Some x) ≡ xs ++ (e.0, x) ∷ ys
      put_here x =
          edit_behind xs (e ∷ ys) k (Some x) under
          ∙ ap (λ l. xs ++ l) (ap (λ r. by_order r ((k, x) ∷ e ∷ ys) ((e.0, x) ∷ ys) (e ∷ put R k x ys)) (sym tie))

      pub removed_here : T (below_all R k ys) → edit R (xs ++ e ∷ ys) k None ≡ xs ++ ys
      removed_here above =
          edit_behind xs (e ∷ ys) k None under
          ∙ ap (λ l. xs ++ l) (ap (λ r. cond (not (is_eq r)) (e ∷ edit R ys k None) (edit R ys k None)) (sym tie) ∙ none_above k ys above)
