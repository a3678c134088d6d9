-- The changes of counts that rises make, and what is found after them.
use Rattle.std.proofs.Common.{◌≡◌, ℕ, Bool, true, false, cond, List, [], ◌∷◌, Some, map, refl, sym, ap, subst, ◌∙◌}
use Rattle.std.specs.Prelude.{T, ◌&&◌}
use Rattle.std.specs.Map.{lookup}
use Rattle.std.specs.Option.{option_map}
use Rattle.std.specs.Ordering.{eq_by_cmp, is_lt, is_eq}
use Rattle.std.specs.declared.cmp.Ordering.{Ordering}
use Rattle.std.specs.FinMap.{is_sorted, find}
use Rattle.std.specs.FinMap.Entries.{below_all}
use Rattle.df_value.specs.CellOrder.{cell_cmp, cell_cmp_total}
use Rattle.df_value.specs.declared.cell.Cell.{Cell}
use Rattle.df_column.specs.Changes.{after_changes}
use Rattle.df_counts.specs.Counts.{count_change}
use Rattle.df_counts.proofs.Orders.{cell_same}
use Rattle.df_delta.proofs.Changes.{after_change}
use Rattle.df_ranks.proofs.Entries.{find_after, tied}

-- what a map of the standard library finds
pub lookup_find : {K X : Type 0} (R : K → K → Ordering) (q : K) (es : List (K × X)) → lookup (λ x. is_eq (R q x)) es ≡ find R q es
lookup_find R q [] = refl
lookup_find R q (e ∷ es) = ap (cond (eq_by_cmp R q e.0) (Some e.1)) (lookup_find R q es)

module _ (counts : List (Cell × ℕ)) where
  pub below_changes : (k : Cell) (rs : List (Cell × ℕ)) → below_all cell_cmp k (map (count_change counts) rs) ≡ below_all cell_cmp k rs
  below_changes k [] = refl
  below_changes k (r ∷ rs) = ap (λ b. is_lt (cell_cmp k r.0) && b) (below_changes k rs)

  pub sorted_changes : (rs : List (Cell × ℕ)) → is_sorted cell_cmp (map (count_change counts) rs) ≡ is_sorted cell_cmp rs
  sorted_changes [] = refl
  sorted_changes (r ∷ rs) = λ i. below_changes r.0 rs i && sorted_changes rs i

  find_changes : (v : Cell) (rs : List (Cell × ℕ)) → find cell_cmp v (map (count_change counts) rs) ≡ option_map (λ r. (count_change counts (v, r)).1) (find cell_cmp v rs)
  find_changes v [] = refl
  find_changes v (r ∷ rs) = by_tie (eq_by_cmp cell_cmp v r.0) refl (find_changes v rs) where
    by_tie : (b : Bool) → eq_by_cmp cell_cmp v r.0 ≡ b → find cell_cmp v (map (count_change counts) rs) ≡ option_map (λ r. (count_change counts (v, r)).1) (find cell_cmp v rs)
        → cond b (Some (count_change counts r).1) (find cell_cmp v (map (count_change counts) rs)) ≡ option_map (λ r. (count_change counts (v, r)).1) (cond b (Some r.1) (find cell_cmp v rs))
    by_tie true t rest = ap (λ k. Some (count_change counts (k, r.1)).1) (sym (tied cell_cmp_total cell_same v r.0 t))
    by_tie false t rest = rest

  -- what is found of a value after the rises
  pub find_raised : (v : Cell) (rs : List (Cell × ℕ)) → T (is_sorted cell_cmp rs)
      → find cell_cmp v (after_changes cell_cmp counts (map (count_change counts) rs)) ≡ after_change (option_map (λ r. (count_change counts (v, r)).1) (find cell_cmp v rs)) (find cell_cmp v counts)
  find_raised v rs h =
      find_after cell_cmp_total cell_same counts (map (count_change counts) rs) v (in_order (sym (sorted_changes rs)) h)
      ∙ ap (λ c. after_change c (find cell_cmp v counts)) (find_changes v rs)
    where
      in_order : {a b : Bool} → a ≡ b → T a → T b
      in_order e t = subst T e t
