-- A row-wise node's delta is the one between its outputs.
use Rattle.std.proofs.Common.{◌≡◌, ◌≢◌, Bool, true, false, cond, Option, Some, None, refl, sym, ap, subst}
use Rattle.std.specs.Option.{IfSome, option_and_then}
use Rattle.std.specs.declared.cmp.Ordering.{Ordering}
use Rattle.std.specs.Cmp.{IsTotalOrder}
use Rattle.std.specs.FinMap.{FinMap, get, IsAntisymmetric}
use Rattle.df_column.specs.Changes.{Change, applied}
use Rattle.df_delta.specs.Differences.{Fits, IsDiff}
use Rattle.df_delta.specs.Collected.{collected}
use Rattle.df_delta.specs.ChangeOf.{change_of, row_wise_change}
use Rattle.df_delta.proofs.Changes.{after_change, IsChange, get-applied, diff_from_changes}
use Rattle.df_delta.proofs.Collected.{get-collected}

module _ {Y : Type 0} (test : Option Y → Option Y → Bool) (yes : (a b : Option Y) → test a b ≡ true → a ≡ b) (no : (a b : Option Y) → test a b ≡ false → a ≢ b) where
  pub change_of_leads : (a b : Option Y) → IsChange (change_of test a b) a b
  change_of_leads a b = elim (test a b) as (λ t. test a b ≡ t → IsChange (cond t None (Some (record { old = a; new = b }))) a b) [
    | true ↦ λ e. yes a b e
    | false ↦ λ e. (refl, refl, no a b e)
  ] refl

  row_wise_leads : {X : Type 0} (f : X → Option Y) (c : Option (Change X)) (a b : Option X) → IfSome c (λ c. c.old ≡ a) → b ≡ after_change c a → IsChange (option_and_then (row_wise_change test f) c) (option_and_then f a) (option_and_then f b)
  row_wise_leads f None a b fits e = ap (option_and_then f) (sym e)
  row_wise_leads f (Some c) a b fits e =
      subst (λ x. IsChange (row_wise_change test f c) (option_and_then f x) (option_and_then f b)) fits
      (subst (λ x. IsChange (row_wise_change test f c) (option_and_then f c.old) (option_and_then f x)) (sym e) (change_of_leads (option_and_then f c.old) (option_and_then f c.new)))

  module _ {X K : Type 0} (f : X → Option Y) {R : K → K → Ordering} (o : IsTotalOrder R) (same : IsAntisymmetric R) where
    pub row_wise_diff : (t : FinMap R X) (d : FinMap R (Change X)) → Fits t d → IsDiff (collected {R = R} (λ _. f) t) (collected {R = R} (λ _. f) (applied t d)) (collected {R = R} (λ _. row_wise_change test f) d)
    row_wise_diff t d fits = diff_from_changes o same _ _ _ (λ q.
        let out = get-collected R (λ _. row_wise_change test f) same d q in
        let before = get-collected R (λ _. f) same t q in
        let after = get-collected R (λ _. f) same (applied t d) q in
        subst (λ c. IsChange c (get (collected {R = R} (λ _. f) t) q) (get (collected {R = R} (λ _. f) (applied t d)) q)) (sym out)
        (subst (λ x. IsChange (option_and_then (row_wise_change test f) (get d q)) x (get (collected {R = R} (λ _. f) (applied t d)) q)) (sym before)
        (subst (λ x. IsChange (option_and_then (row_wise_change test f) (get d q)) (option_and_then f (get t q)) x) (sym after)
        (row_wise_leads f (get d q) (get t q) (get (applied t d) q) (fits.at q) (get-applied o same t d q)))))
