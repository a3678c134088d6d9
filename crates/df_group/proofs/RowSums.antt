-- The sum of a number of each row of a map, after the changes of a delta.
use Rattle.std.proofs.Common.{◌≡◌, pos, ◌+ℤ◌, Bool, true, false, cond, List, [], ◌∷◌, Option, Some, None, refl, sym, ap, subst, ◌∙◌, arith}
use Rattle.std.specs.Prelude.{T, ℤ, ◌-ℤ◌, fold}
use Rattle.std.specs.Option.{IfSome}
use Rattle.std.specs.Ordering.{eq_by_cmp, is_eq}
use Rattle.std.specs.declared.cmp.Ordering.{Ordering}
use Rattle.std.specs.declared.cmp.Ordering.TheVariants.{Less, Equal, Greater}
use Rattle.std.specs.Cmp.{IsTotalOrder, tied_itself}
use Rattle.std.specs.FinMap.{FinMap, get, insert, remove, entries, entries_sorted, is_sorted, find, put, IsAntisymmetric, same_map, get-insert, get-remove, get-entries, entries-insert}
use Rattle.std.specs.FinMap.Entries.{below_all, by_order}
use Rattle.std.proofs.lemmas.Int.{ints}
use Rattle.df_column.proofs.Bools.{T-first, T-second, T-both, equal_from_is_eq, is_lt_from_less, less_from_is_lt}
use Rattle.df_column.specs.Changes.{Change, set_at, applied_list, applied}
use Rattle.df_delta.specs.Differences.{Fits}
use Rattle.df_delta.proofs.Changes.{get-set_at}
use Rattle.df_delta.proofs.Collected.{find_below_all}

-- the sum over entries
abbrev pub row_sum : {K X : Type 0} → (X → ℤ) → List (K × X) → ℤ
row_sum f [] = pos 0
row_sum f (e ∷ es) = f e.1 +ℤ row_sum f es

-- the number of a row, if there is one
abbrev pub part : {X : Type 0} → (X → ℤ) → Option X → ℤ
part f None = pos 0
part f (Some x) = f x

-- a sum after a change
abbrev pub sum_after : {X : Type 0} → (X → ℤ) → ℤ → Change X → ℤ
sum_after f n c = (n -ℤ part f c.old) +ℤ part f c.new

module _ {K X : Type 0} {R : K → K → Ordering} (o : IsTotalOrder R) (same : IsAntisymmetric R) (f : X → ℤ) where
  below_more : (x y : K) (es : List (K × X)) → R x y ≡ Less → T (below_all R y es) → T (below_all R x es)
  below_more x y [] p h = tt
  below_more x y (e ∷ es) p h = T-both _ _ (is_lt_from_less _ (o.trans x y e.0 p (less_from_is_lt _ (T-first _ _ h)))) (below_more x y es p (T-second _ _ h))

  sum_put : (k : K) (v : X) (es : List (K × X)) → T (is_sorted R es) → row_sum f (put R k v es) +ℤ part f (find R k es) ≡ row_sum f es +ℤ f v
  sum_put k v [] h = omega (arith, ints)
  sum_put k v (e ∷ es) h = by_case (R k e.0) refl (sum_put k v es (T-second _ _ h)) where
    by_case : (r : Ordering) → R k e.0 ≡ r → row_sum f (put R k v es) +ℤ part f (find R k es) ≡ row_sum f es +ℤ f v
        → row_sum f (by_order r ((k, v) ∷ e ∷ es) ((e.0, v) ∷ es) (e ∷ put R k v es)) +ℤ part f (cond (is_eq r) (Some e.1) (find R k es)) ≡ row_sum f (e ∷ es) +ℤ f v
    by_case Less p rest =
        let none : part f (find R k es) ≡ pos 0 = ap (part f) (find_below_all R k es (below_more k e.0 es p (T-first _ _ h))) in
        omega (arith, ints, none)
    by_case Equal p rest = omega (arith, ints)
    by_case Greater p rest = omega (arith, ints, rest)

  pub itself : (k : K) → eq_by_cmp R k k ≡ true
  itself k = ap is_eq (tied_itself o k)

  tied : (q k : K) → eq_by_cmp R q k ≡ true → q ≡ k
  tied q k e = same q k (equal_from_is_eq _ (subst T (sym e) tt))

  -- without a key that has no value
  pub remove_none : (t : FinMap R X) (k : K) → get t k ≡ None → remove t k ≡ t
  remove_none t k none = same_map o same _ _ (λ q. get-remove o t k q ∙ by_case q (eq_by_cmp R q k) refl) where
    by_case : (q : K) (b : Bool) → eq_by_cmp R q k ≡ b → cond b None (get t q) ≡ get t q
    by_case q true e = sym (ap (get t) (tied q k e) ∙ none)
    by_case q false e = refl

  -- what was removed, put back
  pub put_back : (t : FinMap R X) (k : K) (x : X) → get t k ≡ Some x → insert (remove t k) k x ≡ t
  put_back t k x some = same_map o same _ _ (λ q. get-insert o (remove t k) k x q ∙ ap (cond (eq_by_cmp R q k) (Some x)) (get-remove o t k q) ∙ by_case q (eq_by_cmp R q k) refl) where
    by_case : (q : K) (b : Bool) → eq_by_cmp R q k ≡ b → cond b (Some x) (cond b None (get t q)) ≡ get t q
    by_case q true e = sym (ap (get t) (tied q k e) ∙ some)
    by_case q false e = refl

  pub sum_insert : (t : FinMap R X) (k : K) (v : X) → row_sum f (entries (insert t k v)) +ℤ part f (get t k) ≡ row_sum f (entries t) +ℤ f v
  sum_insert t k v =
      ap (λ es. row_sum f es +ℤ part f (get t k)) (entries-insert o t k v)
      ∙ ap (λ x. row_sum f (put R k v (entries t)) +ℤ part f x) (get-entries t k)
      ∙ sum_put k v (entries t) (entries_sorted t)

  pub sum_remove : (t : FinMap R X) (k : K) (a : Option X) → get t k ≡ a → row_sum f (entries (remove t k)) +ℤ part f a ≡ row_sum f (entries t) +ℤ pos 0
  sum_remove t k None e = ap (λ m. row_sum f (entries m) +ℤ pos 0) (remove_none t k e)
  sum_remove t k (Some x) e =
      let back : row_sum f (entries (insert (remove t k) k x)) ≡ row_sum f (entries t) = ap (λ m. row_sum f (entries m)) (put_back t k x e) in
      let none : part f (get (remove t k) k) ≡ pos 0 = ap (part f) (get-remove o t k k ∙ ap (λ b. cond b None (get t k)) (itself k)) in
      let put = sum_insert (remove t k) k x in
      omega (arith, ints, back, none, put)

  -- one change
  sum_set : (t : FinMap R X) (k : K) (v : Option X) → row_sum f (entries (set_at t k v)) +ℤ part f (get t k) ≡ row_sum f (entries t) +ℤ part f v
  sum_set t k None = sum_remove t k (get t k) refl
  sum_set t k (Some x) = sum_insert t k x

  -- the first change of a list that fits, and the others once it is made
  pub fits_first : (t : FinMap R X) (e : K × Change X) (es : List (K × Change X)) → ((q : K) → IfSome (find R q (e ∷ es)) (λ c. c.old ≡ get t q)) → e.1.old ≡ get t e.0
  fits_first t e es fits = subst (λ b. IfSome (cond b (Some e.1) (find R e.0 es)) (λ c. c.old ≡ get t e.0)) (itself e.0) (fits e.0)

  pub fits_later : (t : FinMap R X) (e : K × Change X) (es : List (K × Change X)) → T (is_sorted R (e ∷ es)) → ((q : K) → IfSome (find R q (e ∷ es)) (λ c. c.old ≡ get t q))
      → (q : K) → IfSome (find R q es) (λ c. c.old ≡ get (set_at t e.0 e.1.new) q)
  fits_later t e es h fits q = later (eq_by_cmp R q e.0) refl (fits q) where
    later : (b : Bool) → eq_by_cmp R q e.0 ≡ b → IfSome (cond b (Some e.1) (find R q es)) (λ c. c.old ≡ get t q) → IfSome (find R q es) (λ c. c.old ≡ get (set_at t e.0 e.1.new) q)
    later true p k = subst (λ o. IfSome o (λ c. c.old ≡ get (set_at t e.0 e.1.new) q)) (sym (find_below_all R q es (subst (λ k. T (below_all R k es)) (sym (tied q e.0 p)) (T-first _ _ h)))) tt
    later false p k = subst (λ x. IfSome (find R q es) (λ c. c.old ≡ x)) (sym (get-set_at o t e.0 e.1.new q ∙ ap (λ b. cond b e.1.new (get t q)) p)) k

  -- all changes of a list that fits
  sum_list : (t : FinMap R X) (es : List (K × Change X)) → T (is_sorted R es) → ((q : K) → IfSome (find R q es) (λ c. c.old ≡ get t q)) → fold (λ n e. sum_after f n e.1) (row_sum f (entries t)) es ≡ row_sum f (entries (applied_list t es))
  sum_list t [] h fits = refl
  sum_list t (e ∷ es) h fits =
      let old : part f e.1.old ≡ part f (get t e.0) = ap (part f) (fits_first t e es fits) in
      let one = sum_set t e.0 e.1.new in
      let next : sum_after f (row_sum f (entries t)) e.1 ≡ row_sum f (entries (set_at t e.0 e.1.new)) = omega (arith, ints, old, one) in
      ap (λ n. fold (λ n e. sum_after f n e.1) n es) next
      ∙ sum_list (set_at t e.0 e.1.new) es (T-second (below_all R e.0 es) (is_sorted R es) h) (fits_later t e es h fits)

  -- the sum before, moved by each change of a delta that fits, is the sum afterwards
  pub sum_applied : (t : FinMap R X) (d : FinMap R (Change X)) → Fits t d → fold (λ n e. sum_after f n e.1) (row_sum f (entries t)) (entries d) ≡ row_sum f (entries (applied t d))
  sum_applied t d fits = sum_list t (entries d) (entries_sorted d) (λ q. subst (λ o. IfSome o (λ c. c.old ≡ get t q)) (get-entries d q) (fits.at q))
