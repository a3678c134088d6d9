-- Whether keys rise, pair by pair.
use Rattle.std.proofs.Common.{◌≡◌, ℕ, zero, suc, ◌+◌, ◌-◌, ◌<◌, ◌≤◌, Bool, true, false, List, [], ◌∷◌, length, map, drop, get_or, refl, sym, ap, subst, ◌∙◌, arith}
use Rattle.std.specs.Prelude.{T, ◌&&◌}
use Rattle.std.specs.Ordering.{is_lt}
use Rattle.std.specs.declared.cmp.Ordering.{Ordering}
use Rattle.std.specs.declared.cmp.Ordering.TheVariants.{Less}
use Rattle.std.specs.Cmp.{IsTotalOrder, both_ways}
use Rattle.std.specs.FinMap.{is_sorted}
use Rattle.std.specs.FinMap.Entries.{below_all}
use Rattle.df_column.specs.TagOrder.{tag_total}
use Rattle.df_column.specs.Tables.{entry_change}
use Rattle.df_column.specs.Tags.{tag_cmp}
use Rattle.df_column.specs.declared.entry.Entry.{Entry}
use Rattle.df_delta.proofs.Collected.{T-first, T-second, T-both, less_from_is_lt}

true_from_T : (b : Bool) → T b → b ≡ true
true_from_T true p = refl
true_from_T false p = absurd p

module _ {K X : Type 0} {R : K → K → Ordering} (o : IsTotalOrder R) where
  below_more : (x y : K) (es : List (K × X)) → R x y ≡ Less → T (below_all R y es) → T (below_all R x es)
  below_more x y [] p h = tt
  below_more x y (e ∷ es) p h =
      T-both _ _ (subst (λ r. T (is_lt r)) (sym (o.trans x y e.0 p (less_from_is_lt _ (T-first _ _ h)))) tt) (below_more x y es p (T-second _ _ h))

  -- the first key is below the second, and the rest rises
  sorted_step : (a b : K × X) (es : List (K × X)) → is_sorted R (a ∷ b ∷ es) ≡ (is_lt (R a.0 b.0) && is_sorted R (b ∷ es))
  sorted_step a b es = both_ways _ _
      (λ h.
      let t : T (is_sorted R (a ∷ b ∷ es)) = subst T (sym h) tt in
      true_from_T _ (T-both _ _ (T-first (is_lt (R a.0 b.0)) _ (T-first (below_all R a.0 (b ∷ es)) _ t)) (T-second (below_all R a.0 (b ∷ es)) _ t)))
      (λ h.
      let t : T (is_lt (R a.0 b.0) && is_sorted R (b ∷ es)) = subst T (sym h) tt in
      let first = T-first (is_lt (R a.0 b.0)) _ t in
      let rest = T-second (is_lt (R a.0 b.0)) _ t in
      true_from_T _ (T-both (below_all R a.0 (b ∷ es)) _ (T-both _ _ first (below_more a.0 b.0 es (less_from_is_lt _ first) (T-first (below_all R b.0 es) _ rest))) rest))

-- whether the tags rise from an entry on
abbrev pub rises_from : ℕ → List Entry → Bool
rises_from i es = is_sorted tag_cmp (map entry_change (drop i es))

-- the entries at an index and at the one after it
rising_pair : (es : List Entry) (i : ℕ) (x y : Entry) → suc i < length es → x ≡ get_or es i x → y ≡ get_or es (suc i) y
    → rises_from i es ≡ (is_lt (tag_cmp x.tag y.tag) && rises_from (suc i) es)
rising_pair [] i x y h p q = absurd (omega arith)
rising_pair (a ∷ []) i x y h p q = absurd (omega arith)
rising_pair (a ∷ b ∷ es) zero x y h p q =
    sorted_step tag_total (entry_change a) (entry_change b) (map entry_change es)
    ∙ ap (λ (t : Entry). is_lt (tag_cmp t.tag b.tag) && rises_from 0 (b ∷ es)) (sym p)
    ∙ ap (λ (t : Entry). is_lt (tag_cmp x.tag t.tag) && rises_from 0 (b ∷ es)) (sym q)
rising_pair (a ∷ b ∷ es) (suc i) x y h p q = rising_pair (b ∷ es) i x y (omega arith) p q

-- where the entry before this one stands below it, the tags rise from the one where they rise from the other
pub rising_step : (es : List Entry) (at : ℕ) (x y : Entry) → 1 ≤ at → at < length es → x ≡ get_or es (at - 1) x → y ≡ get_or es at y
    → rises_from (at - 1) es ≡ (is_lt (tag_cmp x.tag y.tag) && rises_from at es)
rising_step es zero x y some h p q = absurd (omega arith)
rising_step es (suc i) x y some h p q =
    let e : suc i - 1 ≡ i = omega arith in
    rw e (rising_pair es i x y h (p ∙ ap (λ n. get_or es n x) e) q)

ended : (es : List Entry) (i : ℕ) → length es ≤ i + 1 → rises_from i es ≡ true
ended [] zero h = refl
ended [] (suc i) h = refl
ended (a ∷ []) zero h = refl
ended (a ∷ []) (suc zero) h = refl
ended (a ∷ []) (suc (suc i)) h = refl
ended (a ∷ b ∷ es) zero h = absurd (omega arith)
ended (a ∷ b ∷ es) (suc i) h = ended (b ∷ es) i (omega arith)

pub rising_end : (es : List Entry) (at : ℕ) → length es ≤ at → rises_from (at - 1) es ≡ true
rising_end es at h = ended es (at - 1) (omega arith)
