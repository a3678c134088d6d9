-- Entries by rising keys, of which those before a key stand in front: what is found in them.
use Rattle.std.proofs.Common.{◌≡◌, cond, List, [], ◌∷◌, ◌++◌, Some, None, refl, sym, ap, ◌∙◌}
use Rattle.std.specs.Prelude.{T}
use Rattle.std.specs.Cmp.{IsTotalOrder}
use Rattle.std.specs.Ordering.{is_eq, ordering_reverse}
use Rattle.std.specs.declared.cmp.Ordering.{Ordering}
use Rattle.std.specs.declared.cmp.Ordering.TheVariants.{Less, Equal}
use Rattle.std.specs.FinMap.{find}
use Rattle.std.specs.FinMap.Entries.{below_all}
use Rattle.df_column.specs.Changes.{all_under}
use Rattle.df_column.proofs.Bools.{T-first, T-second, T-both, is_lt_from_less, less_from_is_lt}

module _ {K : Type 0} {R : K → K → Ordering} (o : IsTotalOrder R) where
  pub flipped : (x y : K) (r : Ordering) → R x y ≡ r → R y x ≡ ordering_reverse r
  flipped x y r e = o.antisymm y x ∙ ap ordering_reverse e

  module _ {X : Type 0} where
    -- what is below a key is below each higher one
    pub below_more : (x y : K) (es : List (K × X)) → R x y ≡ Less → T (below_all R y es) → T (below_all R x es)
    below_more x y [] p h = tt
    below_more x y (e ∷ es) p h = T-both _ _ (is_lt_from_less _ (o.trans x y e.0 p (less_from_is_lt _ (T-first _ _ h)))) (below_more x y es p (T-second _ _ h))

    find_below : (k : K) (es : List (K × X)) → T (below_all R k es) → find R k es ≡ None
    find_below k [] h = refl
    find_below k (e ∷ es) h = ap (λ r. cond (is_eq r) (Some e.1) (find R k es)) (less_from_is_lt _ (T-first _ _ h)) ∙ find_below k es (T-second _ _ h)

    find_past : (k : K) (xs ys : List (K × X)) → T (all_under R k xs) → find R k (xs ++ ys) ≡ find R k ys
    find_past k [] ys h = refl
    find_past k (x ∷ xs) ys h =
        ap (λ r. cond (is_eq r) (Some x.1) (find R k (xs ++ ys))) (flipped x.0 k Less (less_from_is_lt _ (T-first _ _ h)))
        ∙ find_past k xs ys (T-second _ _ h)

    -- a key that is not there, and one that is
    pub find_none : (k : K) (xs ys : List (K × X)) → T (all_under R k xs) → T (below_all R k ys) → find R k (xs ++ ys) ≡ None
    find_none k xs ys under above = find_past k xs ys under ∙ find_below k ys above

    pub find_here : (k : K) (xs ys : List (K × X)) (e : K × X) → T (all_under R k xs) → Equal ≡ R k e.0 → find R k (xs ++ e ∷ ys) ≡ Some e.1
    find_here k xs ys e under tie = find_past k xs (e ∷ ys) under ∙ ap (λ r. cond (is_eq r) (Some e.1) (find R k ys)) (sym tie)
