-- A map without a key.
use Rattle.std.proofs.Common.{◌≡◌, Bool, true, false, not, cond, List, Option, None, refl, sym, ap, ◌∙◌}
use Rattle.std.specs.Prelude.{T}
use Rattle.std.specs.Ordering.{eq_by_cmp, is_eq, ordering_reverse}
use Rattle.std.specs.declared.cmp.Ordering.{Ordering}
use Rattle.std.specs.declared.cmp.Ordering.TheVariants.{Less, Equal, Greater}
use Rattle.std.specs.Cmp.{IsTotalOrder}
use Rattle.std.specs.FinMap.{is_sorted, from_sorted, find, IsAntisymmetric, same_map, get-remove, get-from_sorted}
use Rattle.std.specs.FinMap.Entries.{where_key, find-where_key}
use Rattle.df_column.specs.Changes.{set_at}

module _ {K X : Type 0} {R : K → K → Ordering} (o : IsTotalOrder R) (same : IsAntisymmetric R) where
  -- without the key k
  abbrev without : K → List (K × X) → List (K × X)
  without k es = where_key R (λ x. not (eq_by_cmp R k x)) es

  turned : (b c : Bool) (x y : Option X) → b ≡ c → cond (not b) x y ≡ cond c y x
  turned true c x y e = ap (λ c. cond c y x) e
  turned false c x y e = ap (λ c. cond c y x) e

  find-without : (es : List (K × X)) (k q : K) → find R q (without k es) ≡ cond (eq_by_cmp R q k) None (find R q es)
  find-without es k q =
      find-where_key R (λ x. not (eq_by_cmp R k x)) q (λ x t. ap (λ x. not (eq_by_cmp R k x)) (sym (same q x t))) es
      ∙ turned (eq_by_cmp R k q) (eq_by_cmp R q k) (find R q es) None (both_ways k q)
    where
      both_ways : (k q : K) → eq_by_cmp R k q ≡ eq_by_cmp R q k
      both_ways k q = ap is_eq (o.antisymm k q) ∙ reversed (R q k)
        where
          reversed : (r : Ordering) → is_eq (ordering_reverse r) ≡ is_eq r
          reversed Less = refl
          reversed Equal = refl
          reversed Greater = refl

  pub remove_is : (es fs : List (K × X)) (k : K) → T (is_sorted R es) → T (is_sorted R fs) → without k es ≡ fs → set_at (from_sorted {R = R} es) k None ≡ from_sorted fs
  remove_is es fs k h g e = same_map o same _ _ (λ q.
      get-remove o (from_sorted es) k q
      ∙ ap (λ x. cond (eq_by_cmp R q k) None x) (get-from_sorted R es q h)
      ∙ sym (find-without es k q) ∙ ap (find R q) e
      ∙ sym (get-from_sorted R fs q g))
