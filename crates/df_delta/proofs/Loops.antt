-- The ends of a loop that collects.
use Rattle.std.proofs.Common.{◌≡◌, ◌≤◌, ℕ, List, ◌++◌, map, length, drop, Option, sym, ap, subst, ◌∙◌, append-nil}
use Rattle.std.specs.Prelude.{T}
use Rattle.std.proofs.Math.ListN.{drop_of_length-le}
use Rattle.std.specs.FinMap.{FinMap, entries, is_sorted, entries_sorted}
use Rattle.std.specs.declared.cmp.Ordering.{Ordering}
use Rattle.df_delta.specs.Collected.{collected_list}
use Rattle.df_delta.proofs.Collected.{is_sorted-collected}

module _ {E K X Y : Type 0} (R : K → K → Ordering) (pair : E → K × X) (g : K → X → Option Y) where
  -- at the end the collected list is there whole
  pub collected_all : (d : FinMap R X) (out : List (K × Y)) (items : List E) (i : ℕ) → length items ≤ i → map pair items ≡ entries d → out ++ collected_list g (map pair (drop i items)) ≡ collected_list g (map pair items) → out ≡ collected_list g (entries d)
  collected_all d out items i past whole done =
      sym (append-nil out)
      ∙ ap (λ rest. out ++ collected_list g (map pair rest)) (sym (drop_of_length-le items past))
      ∙ done
      ∙ ap (collected_list g) whole

  pub sorted_from_collected : (d : FinMap R X) (out : List (K × Y)) → out ≡ collected_list g (entries d) → T (is_sorted R out)
  sorted_from_collected d out e = subst (λ es. T (is_sorted R es)) (sym e) (is_sorted-collected R g (entries d) (entries_sorted d))
