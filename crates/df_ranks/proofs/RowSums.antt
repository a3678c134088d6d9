-- The sum of a number of each entry of a map, after a change and after the changes of a delta.
use Rattle.std.proofs.Common.{◌≡◌, ℕ, ◌+◌, Bool, true, false, cond, List, [], ◌∷◌, Option, Some, None, map, refl, sym, ap, subst, ◌∙◌, arith}
use Rattle.std.specs.Prelude.{T}
use Rattle.std.specs.List.{sum_by}
use Rattle.std.specs.Option.{IfSome}
use Rattle.std.specs.Ordering.{eq_by_cmp, is_eq}
use Rattle.std.specs.declared.cmp.Ordering.{Ordering}
use Rattle.std.specs.declared.cmp.Ordering.TheVariants.{Less, Equal, Greater}
use Rattle.std.specs.Cmp.{IsTotalOrder, tied_itself}
use Rattle.std.specs.FinMap.{FinMap, get, insert, remove, entries, entries_sorted, is_sorted, find, put, IsAntisymmetric, same_map, get-insert, get-remove, get-entries, entries-insert}
use Rattle.std.specs.FinMap.Entries.{below_all, by_order}
use Rattle.std.proofs.lemmas.List.Sums.{sum_by-cons}
use Rattle.df_column.specs.Changes.{Change, set_at, applied_list, applied}
use Rattle.df_column.proofs.Bools.{T-first, T-second, equal_from_is_eq}
use Rattle.df_counts.proofs.Lookups.{below_more}
use Rattle.df_delta.specs.Differences.{Fits}
use Rattle.df_delta.proofs.Changes.{get-set_at}
use Rattle.df_delta.proofs.Collected.{find_below_all}

-- the sum over entries
abbrev pub total : {E : Type 0} → (E → ℕ) → List E → ℕ
total f [] = 0
total f (e ∷ es) = f e + total f es

pub total-sum_by : {E : Type 0} (f : E → ℕ) (es : List E) → sum_by f es ≡ total f es
total-sum_by f [] = refl
total-sum_by f (e ∷ es) = sum_by-cons f e es ∙ ap (λ n. f e + n) (total-sum_by f es)

pub total-map : {E F : Type 0} (f : F → ℕ) (g : E → F) (es : List E) → total f (map g es) ≡ total (λ e. f (g e)) es
total-map f g [] = refl
total-map f g (e ∷ es) = ap (λ n. f (g e) + n) (total-map f g es)

-- that of a key's value, if it has one
abbrev pub part : {K X : Type 0} → (K × X → ℕ) → K → Option X → ℕ
part f k None = 0
part f k (Some x) = f (k, x)

-- what goes with the old values of changes, and what comes with the new ones
abbrev pub going : {K X : Type 0} → (K × X → ℕ) → List (K × Change X) → ℕ
going f es = total (λ e. part f e.0 e.1.old) es

abbrev pub coming : {K X : Type 0} → (K × X → ℕ) → List (K × Change X) → ℕ
coming f es = total (λ e. part f e.0 e.1.new) es

module _ {K X : Type 0} {R : K → K → Ordering} (o : IsTotalOrder R) (same : IsAntisymmetric R) (f : K × X → ℕ) where
  pub total_put : (k : K) (v : X) (es : List (K × X)) → T (is_sorted R es) → total f (put R k v es) + part f k (find R k es) ≡ total f es + f (k, v)
  total_put k v [] h = omega arith
  total_put k v (e ∷ es) h = by_case (R k e.0) refl (total_put k v es (T-second _ _ h)) where
    by_case : (r : Ordering) → R k e.0 ≡ r → total f (put R k v es) + part f k (find R k es) ≡ total f es + f (k, v)
        → total f (by_order r ((k, v) ∷ e ∷ es) ((e.0, v) ∷ es) (e ∷ put R k v es)) + part f k (cond (is_eq r) (Some e.1) (find R k es)) ≡ total f (e ∷ es) + f (k, v)
    by_case Less p rest =
        let none : part f k (find R k es) ≡ 0 = ap (part f k) (find_below_all R k es (below_more o k e.0 es p (T-first _ _ h))) in
        omega (arith, none)
    by_case Equal p rest =
        let key : k ≡ e.0 = same k e.0 p in
        let one : f (e.0, v) ≡ f (k, v) = ap (λ z. f (z, v)) (sym key) in
        let two : f (k, e.1) ≡ f e = ap (λ z. f (z, e.1)) key in
        omega (arith, one, two)
    by_case Greater p rest = omega (arith, rest)

  itself : (k : K) → eq_by_cmp R k k ≡ true
  itself k = ap is_eq (tied_itself o k)

  tied : (q k : K) → eq_by_cmp R q k ≡ true → q ≡ k
  tied q k e = same q k (equal_from_is_eq _ (subst T (sym e) tt))

  -- without a key that has no value
  remove_none : (t : FinMap R X) (k : K) → get t k ≡ None → remove t k ≡ t
  remove_none t k none = same_map o same _ _ (λ q. get-remove o t k q ∙ by_case q (eq_by_cmp R q k) refl) where
    by_case : (q : K) (b : Bool) → eq_by_cmp R q k ≡ b → cond b None (get t q) ≡ get t q
    by_case q true e = sym (ap (get t) (tied q k e) ∙ none)
    by_case q false e = refl

  -- what was removed, put back
  put_back : (t : FinMap R X) (k : K) (x : X) → get t k ≡ Some x → insert (remove t k) k x ≡ t
  put_back t k x some = same_map o same _ _ (λ q. get-insert o (remove t k) k x q ∙ ap (cond (eq_by_cmp R q k) (Some x)) (get-remove o t k q) ∙ by_case q (eq_by_cmp R q k) refl) where
    by_case : (q : K) (b : Bool) → eq_by_cmp R q k ≡ b → cond b (Some x) (cond b None (get t q)) ≡ get t q
    by_case q true e = sym (ap (get t) (tied q k e) ∙ some)
    by_case q false e = refl

  total_insert : (t : FinMap R X) (k : K) (v : X) → total f (entries (insert t k v)) + part f k (get t k) ≡ total f (entries t) + f (k, v)
  total_insert t k v =
      ap (λ es. total f es + part f k (get t k)) (entries-insert o t k v)
      ∙ ap (λ x. total f (put R k v (entries t)) + part f k x) (get-entries t k)
      ∙ total_put k v (entries t) (entries_sorted t)

  total_remove : (t : FinMap R X) (k : K) (a : Option X) → get t k ≡ a → total f (entries (remove t k)) + part f k a ≡ total f (entries t) + 0
  total_remove t k None e = ap (λ m. total f (entries m) + 0) (remove_none t k e)
  total_remove t k (Some x) e =
      let back : total f (entries (insert (remove t k) k x)) ≡ total f (entries t) = ap (λ m. total f (entries m)) (put_back t k x e) in
      let none : part f k (get (remove t k) k) ≡ 0 = ap (part f k) (get-remove o t k k ∙ ap (λ b. cond b None (get t k)) (itself k)) in
      let put = total_insert (remove t k) k x in
      omega (arith, back, none, put)

  -- one change
  pub total_set : (t : FinMap R X) (k : K) (v : Option X) → total f (entries (set_at t k v)) + part f k (get t k) ≡ total f (entries t) + part f k v
  total_set t k None = total_remove t k (get t k) refl
  total_set t k (Some x) = total_insert t k x

  -- all changes of a list that fits
  total_list : (t : FinMap R X) (es : List (K × Change X)) → T (is_sorted R es) → ((q : K) → IfSome (find R q es) (λ c. c.old ≡ get t q)) → total f (entries (applied_list t es)) + going f es ≡ total f (entries t) + coming f es
  total_list t [] h fits = refl
  total_list t (e ∷ es) h fits =
      let here : e.1.old ≡ get t e.0 = subst (λ b. IfSome (cond b (Some e.1) (find R e.0 es)) (λ c. c.old ≡ get t e.0)) (itself e.0) (fits e.0) in
      let old : part f e.0 e.1.old ≡ part f e.0 (get t e.0) = ap (part f e.0) here in
      let one = total_set t e.0 e.1.new in
      let rest : total f (entries (applied_list (set_at t e.0 e.1.new) es)) + going f es ≡ total f (entries (set_at t e.0 e.1.new)) + coming f es = total_list (set_at t e.0 e.1.new) es (T-second (below_all R e.0 es) (is_sorted R es) h) (λ q. later q (eq_by_cmp R q e.0) refl (fits q)) in
      omega (arith, old, one, rest)
    where
      later : (q : K) (b : Bool) → eq_by_cmp R q e.0 ≡ b → IfSome (cond b (Some e.1) (find R q es)) (λ c. c.old ≡ get t q) → IfSome (find R q es) (λ c. c.old ≡ get (set_at t e.0 e.1.new) q)
      later q true p k = subst (λ o. IfSome o (λ c. c.old ≡ get (set_at t e.0 e.1.new) q)) (sym (find_below_all R q es (subst (λ k. T (below_all R k es)) (sym (tied q e.0 p)) (T-first _ _ h)))) tt
      later q false p k = subst (λ x. IfSome (find R q es) (λ c. c.old ≡ x)) (sym (get-set_at o t e.0 e.1.new q ∙ ap (λ b. cond b e.1.new (get t q)) p)) k

  -- a delta that fits: what there is afterwards and what goes is what there was and what comes
  pub total_applied : (t : FinMap R X) (d : FinMap R (Change X)) → Fits t d → total f (entries (applied t d)) + going f (entries d) ≡ total f (entries t) + coming f (entries d)
  total_applied t d fits = total_list t (entries d) (entries_sorted d) (λ q. subst (λ o. IfSome o (λ c. c.old ≡ get t q)) (get-entries d q) (fits.at q))
