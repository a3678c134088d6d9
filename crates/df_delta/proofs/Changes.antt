-- Laws of maps in the order of their keys, and of the changes between them.
use Rattle.std.proofs.Common.{◌≡◌, ◌≢◌, Bool, true, false, cond, List, [], ◌∷◌, Option, Some, None, refl, sym, ap, subst, ◌∙◌}
use Rattle.std.specs.Option.{IfSome}
use Rattle.std.specs.Ordering.{eq_by_cmp}
use Rattle.std.specs.declared.cmp.Ordering.{Ordering}
use Rattle.std.specs.Cmp.{IsTotalOrder}
use Rattle.std.specs.Prelude.{T}
use Rattle.std.specs.FinMap.{FinMap, get, entries, entries_sorted, is_sorted, find, IsAntisymmetric, same_map, get-insert, get-remove, get-entries}
use Rattle.std.specs.FinMap.Entries.{below_all}
use Rattle.df_delta.proofs.Collected.{T-first, T-second, find_below_all, equal_from_is_eq}
use Rattle.df_column.specs.Changes.{Change, set_at, applied_list, applied}
use Rattle.df_delta.specs.Differences.{Fits, IsLean, IsDiff}

-- what an entry makes of what stood there
abbrev pub after_change : {X : Type 0} → Option (Change X) → Option X → Option X
after_change None a = a
after_change (Some c) a = c.new

-- the entry, or none, leads from a to b and is lean
abbrev pub IsChange : {X : Type 0} → Option (Change X) → Option X → Option X → Type 0
IsChange None a b = a ≡ b
IsChange (Some c) a b = (c.old ≡ a) × (c.new ≡ b) × (a ≢ b)

pub same_change : {X : Type 0} (c d : Option (Change X)) (a b : Option X) → IsChange c a b → IsChange d a b → c ≡ d
same_change None None a b p q = refl
same_change None (Some d) a b p q = absurd (q.2 p)
same_change (Some c) None a b p q = absurd (p.2 q)
same_change (Some c) (Some d) a b p q = λ i. Some (record { old = (p.0 ∙ sym q.0) i; new = (p.1 ∙ sym q.1) i })

-- the law of one step and then the rest
after_step : {X : Type 0} (b : Bool) (n a : Option X) (c : Change X) (rest : Option (Change X)) → c.new ≡ n → (b ≡ true → rest ≡ None) → after_change rest (cond b n a) ≡ after_change (cond b (Some c) rest) a
after_step true n a c rest e none = ap (λ r. after_change r n) (none refl) ∙ sym e
after_step false n a c rest e none = refl

module _ {K X : Type 0} {R : K → K → Ordering} (o : IsTotalOrder R) where
  pub get-set_at : (t : FinMap R X) (k : K) (v : Option X) (q : K) → get (set_at t k v) q ≡ cond (eq_by_cmp R q k) v (get t q)
  get-set_at t k None q = get-remove o t k q
  get-set_at t k (Some x) q = get-insert o t k x q

  module _ (same : IsAntisymmetric R) where
    pub get-applied_list : (t : FinMap R X) (es : List (K × Change X)) (q : K) → T (is_sorted R es) → get (applied_list t es) q ≡ after_change (find R q es) (get t q)
    get-applied_list t [] q h = refl
    get-applied_list t (e ∷ es) q h =
        get-applied_list (set_at t e.0 e.1.new) es q (T-second _ _ h)
        ∙ ap (after_change (find R q es)) (get-set_at t e.0 e.1.new q)
        ∙ after_step (eq_by_cmp R q e.0) e.1.new (get t q) e.1 (find R q es) refl (λ b.
        find_below_all R q es (subst (λ k. T (below_all R k es)) (sym (same q e.0 (equal_from_is_eq _ (subst T (sym b) tt)))) (T-first _ _ h)))

    pub get-applied : (t : FinMap R X) (d : FinMap R (Change X)) (q : K) → get (applied t d) q ≡ after_change (get d q) (get t q)
    get-applied t d q = get-applied_list t (entries d) q (entries_sorted d) ∙ ap (λ c. after_change c (get t q)) (sym (get-entries d q))

    -- the entry at q
    change_from : (c : Option (Change X)) (a b : Option X) → IfSome c (λ c. c.old ≢ c.new) → IfSome c (λ c. c.old ≡ a) → after_change c a ≡ b → IsChange c a b
    change_from None a b lean fits gives = gives
    change_from (Some c) a b lean fits gives = (fits, gives, λ e. lean (fits ∙ e ∙ sym gives))

    pub change_at : (t u : FinMap R X) (d : FinMap R (Change X)) → IsDiff t u d → (q : K) → IsChange (get d q) (get t q) (get u q)
    change_at t u d h q = change_from (get d q) (get t q) (get u q) (h.lean.at q) (h.fits.at q) (sym (get-applied t d q) ∙ ap (λ m. get m q) h.gives)

    lean_change : (c : Option (Change X)) (a b : Option X) → IsChange c a b → IfSome c (λ c. c.old ≢ c.new)
    lean_change None a b h = tt
    lean_change (Some c) a b h = λ e. h.2 (sym h.0 ∙ e ∙ h.1)

    fits_change : (c : Option (Change X)) (a b : Option X) → IsChange c a b → IfSome c (λ c. c.old ≡ a)
    fits_change None a b h = tt
    fits_change (Some c) a b h = h.0

    gives_change : (c : Option (Change X)) (a b : Option X) → IsChange c a b → after_change c a ≡ b
    gives_change None a b h = h
    gives_change (Some c) a b h = h.1

    pub diff_from_changes : (t u : FinMap R X) (d : FinMap R (Change X)) → ((q : K) → IsChange (get d q) (get t q) (get u q)) → IsDiff t u d
    diff_from_changes t u d h = record {
      lean = record { at = λ q. lean_change (get d q) _ _ (h q) };
      fits = record { at = λ q. fits_change (get d q) _ _ (h q) };
      gives = same_map o same _ _ (λ q. get-applied t d q ∙ gives_change (get d q) _ _ (h q));
    }

    -- there is only one
    pub one_diff : (t u : FinMap R X) (d e : FinMap R (Change X)) → IsDiff t u d → IsDiff t u e → d ≡ e
    one_diff t u d e p q = same_map o same d e (λ k. same_change _ _ _ _ (change_at t u d p k) (change_at t u e q k))

    -- a lean delta that fits is the diff of what it makes
    pub diff_of_applied : (t : FinMap R X) (d : FinMap R (Change X)) → IsLean d → Fits t d → IsDiff t (applied t d) d
    diff_of_applied t d lean fits = record { lean = lean; fits = fits; gives = refl }
