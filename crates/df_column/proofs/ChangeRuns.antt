-- Changes to a part of a list of entries, and to the whole.
use Rattle.std.proofs.Common.{◌≡◌, ℕ, Bool, true, false, not, cond, List, [], ◌∷◌, ◌++◌, Option, Some, None, refl, sym, ap, subst, ◌∙◌, take, drop, ◌+◌, suc, arith, append_assoc}
use Rattle.std.specs.Prelude.{T}
use Rattle.std.specs.List.{prefix_len}
use Rattle.std.specs.Ordering.{eq_by_cmp, is_eq, is_lt, ordering_reverse}
use Rattle.std.specs.declared.cmp.Ordering.{Ordering}
use Rattle.std.specs.declared.cmp.Ordering.TheVariants.{Less, Equal, Greater}
use Rattle.std.specs.Cmp.{IsTotalOrder}
use Rattle.std.specs.FinMap.{is_sorted, put, IsAntisymmetric}
use Rattle.std.specs.FinMap.Entries.{below_all, by_order}
use Rattle.df_column.specs.Changes.{Change, edit, after_changes, rest_after, all_under, all_from, apart, one_at}
use Rattle.df_column.proofs.Bools.{T-first, T-second, T-both, less_from_is_lt, is_lt_from_less, not_less, false_from_T}

one_plus : (n : ℕ) → suc n ≡ 1 + n
one_plus n = omega arith

module _ {K : Type 0} {R : K → K → Ordering} (o : IsTotalOrder R) where
  flipped : (x y : K) (r : Ordering) → R x y ≡ r → R y x ≡ ordering_reverse r
  flipped x y r e = o.antisymm y x ∙ ap ordering_reverse e

  pub below_trans : {X : Type 0} (x y : K) (es : List (K × X)) → R x y ≡ Less → T (below_all R y es) → T (below_all R x es)
  below_trans x y [] p h = tt
  below_trans x y (e ∷ es) p h = T-both _ _ (is_lt_from_less _ (o.trans x y e.0 p (less_from_is_lt _ (T-first _ _ h)))) (below_trans x y es p (T-second _ _ h))

  less_from : (x y k : K) → R x k ≡ Less → T (not (is_lt (R y k))) → T (is_lt (R x y))
  less_from x y k e h = by_case (R y k) refl h where
    by_case : (r : Ordering) → R y k ≡ r → T (not (is_lt r)) → T (is_lt (R x y))
    by_case Less e2 h = absurd h
    by_case Equal e2 h = is_lt_from_less _ (flipped y x Greater (o.congr y k x e2 ∙ flipped x k Less e))
    by_case Greater e2 h = is_lt_from_less _ (o.trans x k y e (flipped y k Greater e2))

  module _ {X : Type 0} where
    -- one edit, in the first part or in the second
    edit-left : (xs ys : List (K × X)) (k : K) (v : Option X) → T (below_all R k ys) → edit R (xs ++ ys) k v ≡ edit R xs k v ++ ys
    edit-left [] [] k None h = refl
    edit-left [] [] k (Some v) h = refl
    edit-left [] (y ∷ ys) k None h =
        let less : R k y.0 ≡ Less = less_from_is_lt _ (T-first _ _ h) in
        ap (λ r. cond (not (is_eq r)) (y ∷ edit R ys k None) (edit R ys k None)) less
        ∙ ap (λ rest. y ∷ rest) (edit-left [] ys k None (T-second _ _ h))
    edit-left [] (y ∷ ys) k (Some v) h =
        ap (λ r. by_order r ((k, v) ∷ y ∷ ys) ((y.0, v) ∷ ys) (y ∷ put R k v ys)) (less_from_is_lt _ (T-first _ _ h))
    edit-left (x ∷ xs) ys k None h =
        let rest = edit-left xs ys k None h in
        elim (not (eq_by_cmp R k x.0)) as (λ b. cond b (x ∷ edit R (xs ++ ys) k None) (edit R (xs ++ ys) k None) ≡ cond b (x ∷ edit R xs k None) (edit R xs k None) ++ ys) [ true ↦ ap (λ r. x ∷ r) rest | false ↦ rest ]
    edit-left (x ∷ xs) ys k (Some v) h =
        let rest = edit-left xs ys k (Some v) h in
        elim (R k x.0) as (λ r. by_order r ((k, v) ∷ x ∷ (xs ++ ys)) ((x.0, v) ∷ (xs ++ ys)) (x ∷ put R k v (xs ++ ys)) ≡ by_order r ((k, v) ∷ x ∷ xs) ((x.0, v) ∷ xs) (x ∷ put R k v xs) ++ ys) [ Less ↦ refl | Equal ↦ refl | Greater ↦ ap (λ r. x ∷ r) rest ]

    edit-right : (xs ys : List (K × X)) (k : K) (v : Option X) → T (all_under R k xs) → edit R (xs ++ ys) k v ≡ xs ++ edit R ys k v
    edit-right [] ys k v h = refl
    edit-right (x ∷ xs) ys k None h =
        ap (λ r. cond (not (is_eq r)) (x ∷ edit R (xs ++ ys) k None) (edit R (xs ++ ys) k None)) (flipped x.0 k Less (less_from_is_lt _ (T-first _ _ h)))
        ∙ ap (λ rest. x ∷ rest) (edit-right xs ys k None (T-second _ _ h))
    edit-right (x ∷ xs) ys k (Some v) h =
        ap (λ r. by_order r ((k, v) ∷ x ∷ (xs ++ ys)) ((x.0, v) ∷ (xs ++ ys)) (x ∷ put R k v (xs ++ ys))) (flipped x.0 k Less (less_from_is_lt _ (T-first _ _ h)))
        ∙ ap (λ rest. x ∷ rest) (edit-right xs ys k (Some v) (T-second _ _ h))

  module _ {X Y : Type 0} where
    pub apart_heads : (xs : List (K × X)) (y : K × Y) (ys : List (K × Y)) → T (apart R xs (y ∷ ys)) → T (all_under R y.0 xs)
    apart_heads [] y ys h = tt
    apart_heads (x ∷ xs) y ys h =
        let head : T (below_all R x.0 (y ∷ ys)) = T-first _ _ h in
        T-both _ _ (T-first (is_lt (R x.0 y.0)) _ head) (apart_heads xs y ys (T-second _ _ h))

    apart_tails : (xs : List (K × X)) (y : K × Y) (ys : List (K × Y)) → T (apart R xs (y ∷ ys)) → T (apart R xs ys)
    apart_tails [] y ys h = tt
    apart_tails (x ∷ xs) y ys h =
        let head : T (below_all R x.0 (y ∷ ys)) = T-first _ _ h in
        T-both _ _ (T-second (is_lt (R x.0 y.0)) _ head) (apart_tails xs y ys (T-second _ _ h))

    apart_edit : (xs : List (K × X)) (ys : List (K × Y)) (k : K) (v : Option X) → T (apart R xs ys) → T (below_all R k ys) → T (apart R (edit R xs k v) ys)
    apart_edit [] ys k None h p = tt
    apart_edit [] ys k (Some v) h p = T-both _ _ p tt
    apart_edit (x ∷ xs) ys k None h p =
        let rest = apart_edit xs ys k None (T-second _ _ h) p in
        elim (not (eq_by_cmp R k x.0)) as (λ b. T (apart R (cond b (x ∷ edit R xs k None) (edit R xs k None)) ys)) [ true ↦ T-both _ _ (T-first _ _ h) rest | false ↦ rest ]
    apart_edit (x ∷ xs) ys k (Some v) h p =
        let rest = apart_edit xs ys k (Some v) (T-second _ _ h) p in
        elim (R k x.0) as (λ r. T (apart R (by_order r ((k, v) ∷ x ∷ xs) ((x.0, v) ∷ xs) (x ∷ put R k v xs)) ys)) [ Less ↦ T-both _ _ p h | Equal ↦ h | Greater ↦ T-both _ _ (T-first _ _ h) rest ]

  module _ {X : Type 0} where
    pub after_changes-left : (xs ys : List (K × X)) (cs : List (K × Change X)) → T (apart R cs ys) → after_changes R (xs ++ ys) cs ≡ after_changes R xs cs ++ ys
    after_changes-left xs ys [] h = refl
    after_changes-left xs ys (c ∷ cs) h =
        ap (λ es. after_changes R es cs) (edit-left xs ys c.0 c.1.new (T-first _ _ h))
        ∙ after_changes-left (edit R xs c.0 c.1.new) ys cs (T-second _ _ h)

    pub after_changes-right : (xs ys : List (K × X)) (cs : List (K × Change X)) → T (apart R xs cs) → after_changes R (xs ++ ys) cs ≡ xs ++ after_changes R ys cs
    after_changes-right xs ys [] h = refl
    after_changes-right xs ys (c ∷ cs) h =
        ap (λ es. after_changes R es cs) (edit-right xs ys c.0 c.1.new (apart_heads xs c cs h))
        ∙ after_changes-right xs (edit R ys c.0 c.1.new) cs (apart_tails xs c cs h)

    pub after_changes-append : (xs : List (K × X)) (cs ds : List (K × Change X)) → after_changes R xs (cs ++ ds) ≡ after_changes R (after_changes R xs cs) ds
    after_changes-append xs [] ds = refl
    after_changes-append xs (c ∷ cs) ds = after_changes-append (edit R xs c.0 c.1.new) cs ds

    apart_after : (xs : List (K × X)) (cs ds : List (K × Change X)) → T (apart R xs ds) → T (apart R cs ds) → T (apart R (after_changes R xs cs) ds)
    apart_after xs [] ds h p = h
    apart_after xs (c ∷ cs) ds h p = apart_after (edit R xs c.0 c.1.new) cs ds (apart_edit xs ds c.0 c.1.new h (T-first _ _ p)) (T-second _ _ p)

    -- the changes of two runs that lie apart
    pub changes_runs : (xs ys : List (K × X)) (cs ds : List (K × Change X)) → T (apart R cs ys) → T (apart R xs ds) → T (apart R cs ds) → after_changes R (xs ++ ys) (cs ++ ds) ≡ after_changes R xs cs ++ after_changes R ys ds
    changes_runs xs ys cs ds p q r =
        after_changes-append (xs ++ ys) cs ds
        ∙ ap (λ es. after_changes R es ds) (after_changes-left xs ys cs p)
        ∙ after_changes-right (after_changes R xs cs) ys ds (apart_after xs cs ds q r)

  -- lists in order that are cut
  module _ {X : Type 0} where
    pub below_first : (k : K) (xs ys : List (K × X)) → T (below_all R k (xs ++ ys)) → T (below_all R k xs)
    below_first k [] ys h = tt
    below_first k (x ∷ xs) ys h = T-both _ _ (T-first _ _ h) (below_first k xs ys (T-second _ _ h))

    pub below_second : (k : K) (xs ys : List (K × X)) → T (below_all R k (xs ++ ys)) → T (below_all R k ys)
    below_second k [] ys h = h
    below_second k (x ∷ xs) ys h = below_second k xs ys (T-second _ _ h)

    pub sorted_first : (xs ys : List (K × X)) → T (is_sorted R (xs ++ ys)) → T (is_sorted R xs)
    sorted_first [] ys h = tt
    sorted_first (x ∷ xs) ys h = T-both _ _ (below_first x.0 xs ys (T-first _ _ h)) (sorted_first xs ys (T-second _ _ h))

    pub sorted_second : (xs ys : List (K × X)) → T (is_sorted R (xs ++ ys)) → T (is_sorted R ys)
    sorted_second [] ys h = h
    sorted_second (x ∷ xs) ys h = sorted_second xs ys (T-second _ _ h)

    pub sorted_apart : (xs ys : List (K × X)) → T (is_sorted R (xs ++ ys)) → T (apart R xs ys)
    sorted_apart [] ys h = tt
    sorted_apart (x ∷ xs) ys h = T-both _ _ (below_second x.0 xs ys (T-first _ _ h)) (sorted_apart xs ys (T-second _ _ h))

    -- what stands before k, and what does not
    pub under_prefix : (k : K) (xs : List (K × X)) → T (all_under R k (take (prefix_len (λ x. is_lt (R x.0 k)) xs) xs))
    under_prefix k [] = tt
    under_prefix k (x ∷ xs) =
        let P : Bool → Type 0 = λ b. T (all_under R k (take (cond b (1 + prefix_len (λ x. is_lt (R x.0 k)) xs) 0) (x ∷ xs))) in
        elim (is_lt (R x.0 k)) as (λ b. is_lt (R x.0 k) ≡ b → P b) [
          | true ↦ λ e. subst (λ n. T (all_under R k (take n (x ∷ xs)))) (one_plus _) (T-both _ _ (subst T (sym e) tt) (under_prefix k xs))
          | false ↦ λ e. tt
        ] refl

    from_below : (k : K) (x : K × X) (xs : List (K × X)) → is_lt (R x.0 k) ≡ false → T (below_all R x.0 xs) → T (all_from R k xs)
    from_below k x [] e h = tt
    from_below k x (y ∷ ys) e h =
        T-both _ _ (not_less (R y.0 k) (λ p. subst T e (is_lt_from_less _ (o.trans x.0 y.0 k (less_from_is_lt _ (T-first _ _ h)) p)))) (from_below k x ys e (T-second _ _ h))

    -- a list in order that begins at k
    pub sorted_from : (k : K) (x : K × X) (xs : List (K × X)) → x.0 ≡ k → T (is_sorted R (x ∷ xs)) → T (all_from R k (x ∷ xs))
    sorted_from k x xs e h = subst (λ k. T (all_from R k (x ∷ xs))) e (T-both _ _ itself (from_below x.0 x xs (false_from_T _ itself) (T-first _ _ h))) where
      itself : T (not (is_lt (R x.0 x.0)))
      itself = not_less (R x.0 x.0) (λ p. subst (λ r. T (is_lt r)) (sym p ∙ flipped x.0 x.0 Less p) tt)

    pub from_rest : (k : K) (xs : List (K × X)) → T (is_sorted R xs) → T (all_from R k (drop (prefix_len (λ x. is_lt (R x.0 k)) xs) xs))
    from_rest k [] h = tt
    from_rest k (x ∷ xs) h =
        let P : Bool → Type 0 = λ b. T (all_from R k (drop (cond b (1 + prefix_len (λ x. is_lt (R x.0 k)) xs) 0) (x ∷ xs))) in
        elim (is_lt (R x.0 k)) as (λ b. is_lt (R x.0 k) ≡ b → P b) [
          | true ↦ λ e. subst (λ n. T (all_from R k (drop n (x ∷ xs)))) (one_plus _) (from_rest k xs (T-second _ _ h))
          | false ↦ λ e. T-both _ _ (subst (λ b. T (not b)) (sym e) tt) (from_below k x xs e (T-first _ _ h))
        ] refl

  -- a key that no key of the first list reaches, and none of the second falls below
  module _ {Y : Type 0} where
    pub below_from : (x k : K) (ys : List (K × Y)) → R x k ≡ Less → T (all_from R k ys) → T (below_all R x ys)
    below_from x k [] e h = tt
    below_from x k (y ∷ ys) e h = T-both _ _ (less_from x y.0 k e (T-first _ _ h)) (below_from x k ys e (T-second _ _ h))

  module _ {X Y : Type 0} where
    pub apart_at : (k : K) (xs : List (K × X)) (ys : List (K × Y)) → T (all_under R k xs) → T (all_from R k ys) → T (apart R xs ys)
    apart_at k [] ys p q = tt
    apart_at k (x ∷ xs) ys p q = T-both _ _ (below_from x.0 k ys (less_from_is_lt _ (T-first _ _ p)) q) (apart_at k xs ys (T-second _ _ p) q)

    apart_below : (k : K) (xs : List (K × X)) (ys : List (K × Y)) → T (all_under R k xs) → T (below_all R k ys) → T (apart R xs ys)
    apart_below k [] ys p q = tt
    apart_below k (x ∷ xs) ys p q = T-both _ _ (below_trans x.0 k ys (less_from_is_lt _ (T-first _ _ p)) q) (apart_below k xs ys (T-second _ _ p) q)

    apart_one : (k : K) (v : Option X) (ys : List (K × Y)) → T (below_all R k ys) → T (apart R (one_at k v) ys)
    apart_one k None ys q = tt
    apart_one k (Some v) ys q = T-both _ _ q tt

  module _ {X : Type 0} (same : IsAntisymmetric R) where
    pub sorted_rest : (k : K) (xs : List (K × X)) → T (is_sorted R xs) → T (is_sorted R (rest_after R k xs))
    sorted_rest k [] h = tt
    sorted_rest k (x ∷ xs) h = elim (eq_by_cmp R k x.0) as (λ b. T (is_sorted R (cond b xs (x ∷ xs)))) [ true ↦ T-second _ _ h | false ↦ h ]

    -- an edit before all that stands at its key or above
    edit_front : (xs : List (K × X)) (k : K) (v : Option X) → T (is_sorted R xs) → T (all_from R k xs) → edit R xs k v ≡ one_at k v ++ rest_after R k xs
    edit_front [] k None h p = refl
    edit_front [] k (Some v) h p = refl
    edit_front (x ∷ xs) k v h p = by_case (R k x.0) v refl where
      by_case : (r : Ordering) (v : Option X) → R k x.0 ≡ r → edit R (x ∷ xs) k v ≡ one_at k v ++ rest_after R k (x ∷ xs)
      by_case Less None e =
          ap (λ r. cond (not (is_eq r)) (x ∷ edit R xs k None) (edit R xs k None)) e
          ∙ ap (λ es. x ∷ es) (edit-left [] xs k None (below_trans k x.0 xs e (T-first _ _ h)))
          ∙ ap (λ r. cond (is_eq r) xs (x ∷ xs)) (sym e)
      by_case Less (Some v) e =
          ap (λ r. by_order r ((k, v) ∷ x ∷ xs) ((x.0, v) ∷ xs) (x ∷ put R k v xs)) e
          ∙ ap (λ r. (k, v) ∷ cond (is_eq r) xs (x ∷ xs)) (sym e)
      by_case Equal None e =
          ap (λ r. cond (not (is_eq r)) (x ∷ edit R xs k None) (edit R xs k None)) e
          ∙ edit-left [] xs k None (subst (λ y. T (below_all R y xs)) (sym (same k x.0 e)) (T-first _ _ h))
          ∙ ap (λ r. cond (is_eq r) xs (x ∷ xs)) (sym e)
      by_case Equal (Some v) e =
          ap (λ r. by_order r ((k, v) ∷ x ∷ xs) ((x.0, v) ∷ xs) (x ∷ put R k v xs)) e
          ∙ ap (λ y. (y, v) ∷ xs) (sym (same k x.0 e))
          ∙ ap (λ r. (k, v) ∷ cond (is_eq r) xs (x ∷ xs)) (sym e)
      by_case Greater v e = absurd (subst (λ r. T (not (is_lt r))) (flipped k x.0 Greater e) (T-first _ _ p))

    -- a merge goes on behind a change
    pub merged_front : (less rest : List (K × X)) (c : K × Change X) (ds : List (K × Change X)) → T (all_under R c.0 less) → T (all_from R c.0 rest) → T (is_sorted R rest) → T (below_all R c.0 ds)
        → after_changes R (less ++ rest) (c ∷ ds) ≡ less ++ (one_at c.0 c.1.new ++ after_changes R (rest_after R c.0 rest) ds)
    merged_front less rest c ds under from sorted below =
        ap (λ es. after_changes R es ds) (edit-right less rest c.0 c.1.new under ∙ ap (λ es. less ++ es) (edit_front rest c.0 c.1.new sorted from))
        ∙ after_changes-right less _ ds (apart_below c.0 less ds under below)
        ∙ ap (λ es. less ++ es) (after_changes-right (one_at c.0 c.1.new) _ ds (apart_one c.0 c.1.new ds below))

    -- the same, as the loop says it
    pub merged_one : (out less rest : List (K × X)) (c : K × Change X) (ds : List (K × Change X)) → T (all_under R c.0 less) → T (all_from R c.0 rest) → T (is_sorted R rest) → T (below_all R c.0 ds)
        → ((out ++ less) ++ one_at c.0 c.1.new) ++ after_changes R (rest_after R c.0 rest) ds ≡ out ++ after_changes R (less ++ rest) (c ∷ ds)
    merged_one out less rest c ds under from sorted below =
        append_assoc (out ++ less) _ _ ∙ append_assoc out less _ ∙ ap (λ es. out ++ es) (sym (merged_front less rest c ds under from sorted below))
