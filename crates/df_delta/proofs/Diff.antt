use Rattle.std.proofs.Common.{◌≡◌, ◌≢◌, Bool, true, false, cond, List, [], ◌∷◌, Option, Some, None, refl, sym, ap, subst, ◌∙◌}
use Rattle.std.specs.Prelude.{T}
use Rattle.std.specs.Option.{option_and_then}
use Rattle.std.specs.Ordering.{eq_by_cmp}
use Rattle.std.specs.declared.cmp.Ordering.{Ordering}
use Rattle.std.specs.Cmp.{IsTotalOrder}
use Rattle.std.specs.FinMap.{FinMap, get, insert, entries, entries_sorted, is_sorted, find, get-insert, get-entries, IsAntisymmetric}
use Rattle.std.specs.FinMap.Entries.{below_all}
use Rattle.df_column.specs.Changes.{Change}
use Rattle.df_delta.specs.Differences.{IsDiff}
use Rattle.df_delta.specs.Collected.{collected}
use Rattle.df_delta.specs.Notes.{IsNote}
use Rattle.df_delta.specs.Diff.{filled, diff}
use Rattle.df_delta.proofs.Changes.{one_diff}
use Rattle.df_delta.proofs.Collected.{T-first, T-second, find_below_all, equal_from_is_eq, get-collected}
use Rattle.df_delta.proofs.NoteDiffs.{diff_of_notes}

-- a note where the later table has a row, else d's
abbrev noted : {X : Type 0} → Option X → Option X → Option (Change X) → Option (Change X)
noted None a c = c
noted (Some y) a c = Some (record { old = a; new = Some y })

module _ {K X : Type 0} {R : K → K → Ordering} (o : IsTotalOrder R) (same : IsAntisymmetric R) where
  get-filled : (t : FinMap R X) (d : FinMap R (Change X)) (es : List (K × X)) (q : K) → T (is_sorted R es) → get (filled t d es) q ≡ noted (find R q es) (get t q) (get d q)
  get-filled t d [] q h = refl
  get-filled t d (e ∷ es) q h =
      get-filled t (insert d e.0 (record { old = get t e.0; new = Some e.1 })) es q (T-second _ _ h)
      ∙ ap (noted (find R q es) (get t q)) (get-insert o d e.0 (record { old = get t e.0; new = Some e.1 }) q)
      ∙ elim (eq_by_cmp R q e.0) as (λ b. eq_by_cmp R q e.0 ≡ b → noted (find R q es) (get t q) (cond b (Some (record { old = get t e.0; new = Some e.1 })) (get d q)) ≡ noted (cond b (Some e.1) (find R q es)) (get t q) (get d q)) [
        | true ↦ λ b.
            let key : q ≡ e.0 = same q e.0 (equal_from_is_eq _ (subst T (sym b) tt)) in
            ap (λ f. noted f (get t q) (Some (record { old = get t e.0; new = Some e.1 }))) (find_below_all R q es (subst (λ k. T (below_all R k es)) (sym key) (T-first _ _ h)))
            ∙ ap (λ k. Some (record { old = get t k; new = Some e.1 })) (sym key)
        | false ↦ λ b. refl
      ] refl

  noted_is_note : (a b : Option X) → IsNote (noted b a (option_and_then (λ x. Some (record { old = Some x; new = b })) a)) a b
  noted_is_note None None = refl
  noted_is_note (Some x) None = (refl, refl)
  noted_is_note a (Some y) = (refl, refl)

  module _ (test : Option X → Option X → Bool) (yes : (a b : Option X) → test a b ≡ true → a ≡ b) (no : (a b : Option X) → test a b ≡ false → a ≢ b) where
    pub diff_leads : (t u : FinMap R X) → IsDiff t u (diff test t u)
    diff_leads t u =
        let first = collected {R = R} (λ q x. Some (record { old = Some x; new = get u q })) t in
        diff_of_notes o same test yes no t u (filled t first (entries u)) (λ q.
        subst (λ c. IsNote c (get t q) (get u q))
        (sym (get-filled t first (entries u) q (entries_sorted u)
        ∙ ap (λ f. noted f (get t q) (get first q)) (sym (get-entries u q))
        ∙ ap (noted (get u q) (get t q)) (get-collected R (λ q x. Some (record { old = Some x; new = get u q })) same t q)))
        (noted_is_note (get t q) (get u q)))

    -- so what leads from t to u is `diff`
    pub diff_is : (t u : FinMap R X) (d : FinMap R (Change X)) → IsDiff t u d → d ≡ diff test t u
    diff_is t u d h = one_diff o same t u d (diff test t u) h (diff_leads t u)
