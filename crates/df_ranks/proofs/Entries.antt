-- Entries by rising keys, and what is found in them after changes.
use Rattle.std.proofs.Common.{◌≡◌, Bool, true, false, cond, not, List, [], ◌∷◌, Option, Some, None, refl, sym, ap, subst, ◌∙◌}
use Rattle.std.specs.Prelude.{T}
use Rattle.std.specs.Ordering.{eq_by_cmp, is_eq, ordering_reverse}
use Rattle.std.specs.declared.cmp.Ordering.{Ordering}
use Rattle.std.specs.declared.cmp.Ordering.TheVariants.{Less, Equal, Greater}
use Rattle.std.specs.Cmp.{IsTotalOrder, tied_itself}
use Rattle.std.specs.FinMap.{is_sorted, find, IsAntisymmetric}
use Rattle.std.specs.FinMap.Entries.{below_all, find-put, find-where_key}
use Rattle.df_column.specs.Changes.{Change, edit, after_changes}
use Rattle.df_column.proofs.Bools.{T-first, T-second, equal_from_is_eq}
use Rattle.df_counts.proofs.Edits.{sorted_edit}
use Rattle.df_delta.proofs.Collected.{find_below_all}
use Rattle.df_delta.proofs.Changes.{after_change}

module _ {K : Type 0} {R : K → K → Ordering} (o : IsTotalOrder R) where
  pub tie_same : (a b : K) → a ≡ b → eq_by_cmp R b a ≡ true
  tie_same a b e = ap (λ t. eq_by_cmp R b t) e ∙ ap is_eq (tied_itself o b)

  pub tied : IsAntisymmetric R → (a b : K) → eq_by_cmp R a b ≡ true → a ≡ b
  tied same a b e = same a b (equal_from_is_eq _ (subst T (sym e) tt))

  ties_both : (k q : K) → eq_by_cmp R k q ≡ eq_by_cmp R q k
  ties_both k q = ap is_eq (o.antisymm k q) ∙ reversed (R q k) where
    reversed : (r : Ordering) → is_eq (ordering_reverse r) ≡ is_eq r
    reversed Less = refl
    reversed Equal = refl
    reversed Greater = refl

module _ {K X : Type 0} {R : K → K → Ordering} (o : IsTotalOrder R) (same : IsAntisymmetric R) where
  turned : (b c : Bool) (x y : Option X) → b ≡ c → cond (not b) x y ≡ cond c y x
  turned true c x y e = ap (λ c. cond c y x) e
  turned false c x y e = ap (λ c. cond c y x) e

  find_edit : (es : List (K × X)) (k : K) (v : Option X) (q : K) → find R q (edit R es k v) ≡ cond (eq_by_cmp R q k) v (find R q es)
  find_edit es k None q =
      find-where_key R (λ x. not (eq_by_cmp R k x)) q (λ x t. ap (λ x. not (eq_by_cmp R k x)) (sym (same q x t))) es
      ∙ turned (eq_by_cmp R k q) (eq_by_cmp R q k) (find R q es) None (ties_both o k q)
  find_edit es k (Some v) q = find-put R o q k v es

  pub sorted_after : (es : List (K × X)) (cs : List (K × Change X)) → T (is_sorted R es) → T (is_sorted R (after_changes R es cs))
  sorted_after es [] h = h
  sorted_after es (c ∷ cs) h = sorted_after (edit R es c.0 c.1.new) cs (sorted_edit o es c.0 c.1.new h)

  after_step : (b : Bool) (c : Change X) (rest : Option (Change X)) (a : Option X) → (b ≡ true → rest ≡ None) → after_change rest (cond b c.new a) ≡ after_change (cond b (Some c) rest) a
  after_step true c rest a none = ap (λ r. after_change r c.new) (none refl)
  after_step false c rest a none = refl

  -- a look-up after the changes
  pub find_after : (es : List (K × X)) (cs : List (K × Change X)) (q : K) → T (is_sorted R cs) → find R q (after_changes R es cs) ≡ after_change (find R q cs) (find R q es)
  find_after es [] q h = refl
  find_after es (c ∷ cs) q h =
      find_after (edit R es c.0 c.1.new) cs q (T-second _ _ h)
      ∙ ap (after_change (find R q cs)) (find_edit es c.0 c.1.new q)
      ∙ after_step (eq_by_cmp R q c.0) c.1 (find R q cs) (find R q es) (λ b.
      find_below_all R q cs (subst (λ k. T (below_all R k cs)) (sym (same q c.0 (equal_from_is_eq _ (subst T (sym b) tt)))) (T-first _ _ h)))
