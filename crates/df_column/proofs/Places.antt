-- A key's place in entries in order, as a search finds it, and what a new entry at that place makes.
use Rattle.std.proofs.Common.{◌≡◌, ℕ, zero, suc, ◌<◌, ◌≤◌, cond, List, [], ◌∷◌, length, map, get_or, Some, None, Result, Ok, Err, IfOk, IfErr, refl, sym, ap, subst, ◌∙◌, arith}
use Rattle.std.specs.Prelude.{T}
use Rattle.std.specs.List.Sorted.{IsNonDecreasingBy, IsSearchInRange, IsBinarySearchResult}
use Rattle.std.specs.Ordering.{is_eq, ordering_reverse, ordering_index}
use Rattle.std.specs.declared.cmp.Ordering.{Ordering}
use Rattle.std.specs.declared.cmp.Ordering.TheVariants.{Less, Equal, Greater}
use Rattle.std.specs.Cmp.{IsTotalOrder}
use Rattle.std.specs.FinMap.{is_sorted, find, IsAntisymmetric}
use Rattle.std.specs.FinMap.Entries.{below_all}
use Rattle.df_column.specs.Places.{IsGap, IsPlace}
use Rattle.df_column.proofs.Bools.{T-first, T-second, less_from_is_lt}

pub flipped : {K : Type 0} {R : K → K → Ordering} (o : IsTotalOrder R) (x y : K) (r : Ordering) → R x y ≡ r → R y x ≡ ordering_reverse r
flipped o x y r e = o.antisymm y x ∙ ap ordering_reverse e

less_index : (r s : Ordering) → (r ≡ Equal → s ≡ Greater) → (r ≡ Greater → s ≡ Greater) → ordering_index r ≤ ordering_index s
less_index Less s f g = omega arith
less_index Equal s f g = subst (λ s. 1 ≤ ordering_index s) (sym (f refl)) (omega arith)
less_index Greater s f g = subst (λ s. 2 ≤ ordering_index s) (sym (g refl)) (omega arith)

-- a later key compares no lower
rises : {K : Type 0} {R : K → K → Ordering} (o : IsTotalOrder R) (x y k : K) → R x y ≡ Less → ordering_index (R x k) ≤ ordering_index (R y k)
rises {R = R} o x y k h = less_index (R x k) (R y k)
    (λ e. flipped o k y Less (sym (o.congr x k y e) ∙ h))
    (λ e. flipped o k y Less (o.trans k x y (flipped o x k Greater e) h))

module _ {K X : Type 0} {R : K → K → Ordering} (o : IsTotalOrder R) (same : IsAntisymmetric R) where
  gap_tail : (e : K × X) (es : List (K × X)) (k : K) (i : ℕ) → IsGap R (e ∷ es) k (suc i) → IsGap R es k i
  gap_tail e es k i g = record {
    in_range = omega (arith, g.in_range);
    before = λ j d lt. g.before (suc j) d (omega arith);
    after = λ j d le lt. g.after (suc j) d (omega arith) (omega arith);
  }

  place_tail : (e : K × X) (es : List (K × X)) (k : K) (i : ℕ) → IsPlace R (e ∷ es) k (suc i) → IsPlace R es k i
  place_tail e es k i p = record { in_range = omega (arith, p.in_range); here = λ d. p.here d }

  -- in order, an entry whose key ties with k stands after lesser ones
  less_before_place : (e : K × X) (es : List (K × X)) (k : K) (i : ℕ) → T (below_all R e.0 es) → IsPlace R es k i → R e.0 k ≡ Less
  less_before_place e [] k i h p = absurd (omega (arith, p.in_range))
  less_before_place e (f ∷ es) k zero h p = subst (λ x. R e.0 x ≡ Less) (same f.0 k (p.here f)) (less_from_is_lt _ (T-first _ _ h))
  less_before_place e (f ∷ es) k (suc i) h p = less_before_place e es k i (T-second _ _ h) (place_tail f es k i p)

  -- entries in order make comparisons with k that rise, as a binary search asks
  above_in : (es : List (K × X)) (k : K) (j : ℕ) (d : K × X) → T (below_all R k es) → j < length es → R k (get_or es j d).0 ≡ Less
  above_in [] k j d h lt = absurd (omega arith)
  above_in (e ∷ es) k zero d h lt = less_from_is_lt _ (T-first _ _ h)
  above_in (e ∷ es) k (suc j) d h lt = above_in es k j d (T-second _ _ h) (omega arith)

  pub rises_along : (es : List (K × X)) (k : K) → T (is_sorted R es) → IsNonDecreasingBy (λ e. ordering_index (R e.0 k)) es
  rises_along [] k h i j d le lt = absurd (omega arith)
  rises_along (e ∷ es) k h zero zero d le lt = omega arith
  rises_along (e ∷ es) k h zero (suc j) d le lt = rises o e.0 (get_or es j d).0 k (above_in es e.0 j d (T-first _ _ h) (omega arith))
  rises_along (e ∷ es) k h (suc i) zero d le lt = absurd (omega arith)
  rises_along (e ∷ es) k h (suc i) (suc j) d le lt = rises_along es k (T-second _ _ h) i j d (omega arith) (omega arith)

  -- what a binary search for k answers
  pub placed : (es : List (K × X)) (k : K) (r : Result ℕ ℕ) → T (is_sorted R es) → IsSearchInRange r (length es) → IsBinarySearchResult (λ e. R e.0 k) es r → record { found : IfOk r (IsPlace R es k); absent : IfErr r (IsGap R es k) }
  placed es k (Ok i) h range at = record { found = record { in_range = range; here = at }; absent = tt }
  placed es k (Err i) h range parted =
      let parts = parted (rises_along es k h) in
      record { found = tt; absent = record { in_range = range; before = λ j d lt. parts.0 j d (omega arith) lt; after = parts.1 } }

  -- what stands at a place, and that nothing stands in a gap
  pub find-gap : (es : List (K × X)) (k : K) (i : ℕ) → IsGap R es k i → find R k es ≡ None
  find-gap [] k i g = refl
  find-gap (e ∷ es) k zero g =
      ap (λ r. cond (is_eq r) (Some e.1) (find R k es)) (flipped o e.0 k Greater (g.after 0 e (omega arith) (omega arith)))
      ∙ find-gap es k zero (record { in_range = omega arith; before = λ j d lt. absurd (omega arith); after = λ j d le lt. g.after (suc j) d (omega arith) (omega arith) })
  find-gap (e ∷ es) k (suc i) g =
      ap (λ r. cond (is_eq r) (Some e.1) (find R k es)) (flipped o e.0 k Less (g.before 0 e (omega arith)))
      ∙ find-gap es k i (gap_tail e es k i g)

  pub find-place : (es : List (K × X)) (k : K) (i : ℕ) (d : K × X) → T (is_sorted R es) → IsPlace R es k i → find R k es ≡ Some (get_or es i d).1
  find-place [] k i d h p = absurd (omega (arith, p.in_range))
  find-place (e ∷ es) k zero d h p = ap (λ r. cond (is_eq r) (Some e.1) (find R k es)) (flipped o e.0 k Equal (p.here e))
  find-place (e ∷ es) k (suc i) d h p =
      ap (λ r. cond (is_eq r) (Some e.1) (find R k es)) (flipped o e.0 k Less (less_before_place e es k i (T-first _ _ h) (place_tail e es k i p)))
      ∙ find-place es k i d (T-second _ _ h) (place_tail e es k i p)

-- the same of a list whose items have keys
pub mapped_at : {X Y : Type 0} (f : X → Y) (xs : List X) (i : ℕ) (d : Y) (e : X) → i < length xs → get_or (map f xs) i d ≡ f (get_or xs i e)
mapped_at f [] i d e lt = absurd (omega arith)
mapped_at f (x ∷ xs) zero d e lt = refl
mapped_at f (x ∷ xs) (suc i) d e lt = mapped_at f xs i d e (omega arith)

pub mapped_length : {X Y : Type 0} (f : X → Y) (xs : List X) → length (map f xs) ≡ length xs
mapped_length f [] = refl
mapped_length f (x ∷ xs) = ap suc (mapped_length f xs)
