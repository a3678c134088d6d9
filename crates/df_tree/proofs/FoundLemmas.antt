-- Where the sum of the measures passes.
use Rattle.std.proofs.Common.{◌≡◌, ◌<◌, ◌≤◌, ◌+◌, ℕ, Bool, true, false, zero, suc, List, [], ◌∷◌, ◌++◌, length, refl, sym, ap, ◌∙◌, arith, subst, length-append}
use Rattle.std.specs.Prelude.{take, drop, get_or}
use Rattle.std.proofs.lemmas.List.{take-append-drop, length-take-le}
use Rattle.std.proofs.Math.Seq.{take-suc, split_at, get_or-append_seam}
use Rattle.df_tree.specs.Laws.{MonoidLaws, total}
use denote.Param.Weighed.{at_most}
use Rattle.df_tree.specs.Leaves.{leaves_of_parts, items, rank_above}
use Rattle.df_tree.specs.Finds.{IsFirst, IsFirstWithSum, IsFound, IsReached}
use Rattle.df_tree.proofs.LeafLemmas.{items-append, items-three, leaves-append, take-within}
use Rattle.df_tree.proofs.Sums.{further, left_total, total-append}

false_unless : (b : Bool) → (b ≡ true → ⊥) → b ≡ false
false_unless true h = absurd (h refl)
false_unless false h = refl

pub true_or_false : (b : Bool) → b ≡ true → b ≡ false → ⊥
true_or_false b h k = cc h

take-shorter : {X : Type 0} (xs : List X) (k n : ℕ) → k ≤ n → take k (take n xs) ≡ take k xs
take-shorter xs zero zero h = refl
take-shorter xs zero (suc n) h = refl
take-shorter xs (suc k) zero h = absurd (omega (arith, h))
take-shorter [] (suc k) (suc n) h = refl
take-shorter (x ∷ xs) (suc k) (suc n) h = ap (λ l. x ∷ l) (take-shorter xs k n (omega (arith, h)))

-- the first parts have no more items than all
pub fits_front : {I : Type 0} (ks : List (List (List I × ℕ) × ℕ)) (at : ℕ) → length (items {I = I} (leaves_of_parts {I = I} (take at ks))) ≤ length (items {I = I} (leaves_of_parts {I = I} ks))
fits_front {I = I} ks at =
    let all : items {I = I} (leaves_of_parts {I = I} ks) ≡ items {I = I} (leaves_of_parts {I = I} (take at ks)) ++ items {I = I} (leaves_of_parts {I = I} (drop at ks))
    = ap (λ l. items {I = I} (leaves_of_parts {I = I} l)) (sym (take-append-drop at ks)) ∙ ap (λ l. items {I = I} l) (leaves-append {I = I} (take at ks) (drop at ks)) ∙ items-append {I = I} (leaves_of_parts {I = I} (take at ks)) (leaves_of_parts {I = I} (drop at ks)) in
    let n = ap length all in
    let m = length-append (items {I = I} (leaves_of_parts {I = I} (take at ks))) (items {I = I} (leaves_of_parts {I = I} (drop at ks))) in
    omega (arith, n, m)

module _ {I M : Type 0} (none : M) (plus : M → M → M) (f : I → M) (laws : MonoidLaws none plus) where
  -- one item further on
  pub item_more : (run : List I) (at : ℕ) (before sum next mine : M) (x : I) → sum ≡ plus before (total none plus f (take at run)) → at < length run → x ≡ get_or run at x → mine ≡ f x → next ≡ plus sum mine
      → next ≡ plus before (total none plus f (take (at + 1) run))
  item_more run at before sum next mine x e h is m n =
      let a : suc at ≡ at + 1 = omega arith in
      let all : total none plus f (take (suc at) run) ≡ plus (total none plus f (take at run)) (f x)
      = ap (total none plus f) (take-suc run at x h ∙ ap (λ y. take at run ++ y ∷ []) (sym is)) ∙ total-append none plus f laws (take at run) (x ∷ []) ∙ sym (laws.associative (total none plus f (take at run)) (f x) none) ∙ laws.right (total none plus f (take at run)) (f x) in
      n ∙ ap (plus sum) m ∙ ap (λ s. plus s (f x)) e ∙ laws.associative before (total none plus f (take at run)) (f x) ∙ ap (plus before) (sym all) ∙ ap (λ n. plus before (total none plus f (take n run))) a

  -- one part further on
  pub part_more : (ks : List (List (List I × ℕ) × ℕ)) (at : ℕ) (before sum next mine : M) (k : List (List I × ℕ) × ℕ) → sum ≡ plus before (total none plus f (items {I = I} (leaves_of_parts {I = I} (take at ks)))) → at < length ks → k ≡ get_or ks at k
      → mine ≡ total none plus f (items {I = I} k.0) → next ≡ plus sum mine → next ≡ plus before (total none plus f (items {I = I} (leaves_of_parts {I = I} (take (at + 1) ks))))
  part_more ks at before sum next mine k e h is m n =
      let a : suc at ≡ at + 1 = omega arith in
      n ∙ ap (plus sum) m ∙ ap (λ s. plus s (total none plus f (items {I = I} k.0))) e ∙ laws.associative before (total none plus f (items {I = I} (leaves_of_parts {I = I} (take at ks)))) (total none plus f (items {I = I} k.0))
      ∙ ap (plus before) (sym (further none plus f laws ks at k h is)) ∙ ap (λ n. plus before (total none plus f (items {I = I} (leaves_of_parts {I = I} (take n ks))))) a

  module _ (passes : M → Bool) where
    -- a part that was reached from the front on
    pub reached : (ks : List (List (List I × ℕ) × ℕ)) (at skipped : ℕ) (before sum next mine : M) (k : List (List I × ℕ) × ℕ)
        → skipped ≡ length (items {I = I} (leaves_of_parts {I = I} (take at ks))) → sum ≡ plus before (total none plus f (items {I = I} (leaves_of_parts {I = I} (take at ks)))) → passes sum ≡ false
        → at < length ks → k ≡ get_or ks at k → mine ≡ total none plus f (items {I = I} k.0) → next ≡ plus sum mine → passes next ≡ true
        → IsReached {I = I} {M = M} none plus f passes before ks at skipped sum
    reached ks at skipped before sum next mine k e s p h is m n q = record {
      front = take at ks;
      part = k;
      back = drop (suc at) ks;
      cut = split_at ks at k h ∙ ap (λ l. take at ks ++ l ∷ drop (suc at) ks) (sym is);
      at_is = sym (length-take-le at ks (omega (arith, h)));
      skipped_is = e;
      sum_is = s;
      not_yet = p;
      now = ap passes (ap (plus sum) (sym m) ∙ sym n) ∙ q;
    }

    -- an item of a part that was reached
    module _ (before : M) (ks : List (List (List I × ℕ) × ℕ)) (at skipped : ℕ) (sum : M) (r : IsReached {I = I} {M = M} none plus f passes before ks at skipped sum) where
      all_items : items {I = I} (leaves_of_parts {I = I} ks) ≡ items {I = I} (leaves_of_parts {I = I} r.front) ++ (items {I = I} r.part.0 ++ items {I = I} (leaves_of_parts {I = I} r.back))
      all_items = ap (λ l. items {I = I} (leaves_of_parts {I = I} l)) r.cut ∙ ap (λ l. items {I = I} l) (leaves-append {I = I} r.front (r.part ∷ r.back)) ∙ items-three {I = I} (leaves_of_parts {I = I} r.front) r.part.0 (leaves_of_parts {I = I} r.back)

      sum_at : (i j : ℕ) → j ≡ skipped + i → i ≤ length (items {I = I} r.part.0) → plus before (total none plus f (take j (items {I = I} (leaves_of_parts {I = I} ks)))) ≡ plus sum (total none plus f (take i (items {I = I} r.part.0)))
      sum_at i j e h =
          let front : List I = items {I = I} (leaves_of_parts {I = I} r.front) in
          let mine : List I = items {I = I} r.part.0 in
          let far : j ≡ length front + i = omega (arith, e, r.skipped_is) in
          ap (λ l. plus before (total none plus f (take j l))) all_items
          ∙ ap (λ l. plus before (total none plus f l)) (take-within front mine (items {I = I} (leaves_of_parts {I = I} r.back)) i j far h)
          ∙ ap (plus before) (total-append none plus f laws front (take i mine))
          ∙ sym (laws.associative before (total none plus f front) (total none plus f (take i mine)))
          ∙ ap (λ s. plus s (total none plus f (take i mine))) (sym r.sum_is)

      pub within_all : (i : ℕ) → i < length (items {I = I} r.part.0) → skipped + i < length (items {I = I} (leaves_of_parts {I = I} ks))
      within_all i h =
          let a = ap length all_items in
          let b = length-append (items {I = I} (leaves_of_parts {I = I} r.front)) (items {I = I} r.part.0 ++ items {I = I} (leaves_of_parts {I = I} r.back)) in
          let c = length-append (items {I = I} r.part.0) (items {I = I} (leaves_of_parts {I = I} r.back)) in
          omega (arith, a, b, c, h, r.skipped_is)

      pub part_is : (k : List (List I × ℕ) × ℕ) → k ≡ get_or ks at k → k ≡ r.part
      part_is k e = e ∙ ap (λ l. get_or l at k) r.cut ∙ ap (λ n. get_or (r.front ++ r.part ∷ r.back) n k) r.at_is ∙ get_or-append_seam r.front r.part r.back k

      pub reached_in : at < length ks
      reached_in = let n = length-append r.front (r.part ∷ r.back) in let m = ap length r.cut in omega (arith, n, m, r.at_is)

      pub reached_lower : (k : List (List I × ℕ) × ℕ) → k ≡ get_or ks at k → k.1 < rank_above {I = I} ks
      reached_lower k e = let m = at_most (λ k. k.1 + 1) ks at k reached_in in let n : k.1 + 1 ≡ (get_or ks at k).1 + 1 = ap (λ k. k.1 + 1) e in omega (arith, m, n)

      pub settled_at : plus sum none ≡ sum
      settled_at = ap (λ s. plus s none) r.sum_is ∙ laws.right _ _ ∙ sym r.sum_is

      pub reached_now : (k : List (List I × ℕ) × ℕ) → k ≡ get_or ks at k → passes (plus sum (total none plus f (items {I = I} k.0))) ≡ true
      reached_now k e = ap (λ k. passes (plus sum (total none plus f (items {I = I} k.0)))) (part_is k e) ∙ r.now

      found_in : (i : ℕ) (s : M) → IsFound {I = I} {M = M} none plus f passes sum (items {I = I} r.part.0) i s → IsFound {I = I} {M = M} none plus f passes before (items {I = I} (leaves_of_parts {I = I} ks)) (skipped + i) s
      found_in i s d = record {
        within = within_all i d.within;
        sum_is = d.sum_is ∙ sym (sum_at i (skipped + i) refl (omega (arith, d.within)));
        not_yet = ap passes (sum_at i (skipped + i) refl (omega (arith, d.within))) ∙ d.not_yet;
        now = ap passes (sum_at (i + 1) (skipped + i + 1) (omega arith) (omega (arith, d.within))) ∙ d.now;
      }

      pub found_at : (k : List (List I × ℕ) × ℕ) → k ≡ get_or ks at k → (i : ℕ) (s : M) → IsFound {I = I} {M = M} none plus f passes sum (items {I = I} k.0) i s → IsFound {I = I} {M = M} none plus f passes before (items {I = I} (leaves_of_parts {I = I} ks)) (skipped + i) s
      found_at k e i s d = found_in i s (subst (λ k. IsFound {I = I} {M = M} none plus f passes sum (items {I = I} k.0) i s) (part_is k e) d)

    -- the first one, where the sum passes on once it passes
    module _ (stays : (x y : M) → passes x ≡ true → passes (plus x y) ≡ true) where
      still : (xs : List I) (k at : ℕ) → k ≤ at → passes (total none plus f (take k xs)) ≡ true → passes (total none plus f (take at xs)) ≡ true
      still xs k at h q =
          let cut : take k xs ++ drop k (take at xs) ≡ take at xs = ap (λ l. l ++ drop k (take at xs)) (sym (take-shorter xs k at h)) ∙ take-append-drop k (take at xs) in
          ap passes (ap (total none plus f) (sym cut) ∙ total-append none plus f laws (take k xs) (drop k (take at xs))) ∙ stays _ _ q

      pub first_found : (xs : List I) (at : ℕ) (sum : M) → IsFound {I = I} {M = M} none plus f passes none xs at sum → IsFirstWithSum {I = I} {M = M} none plus f passes xs at sum
      first_found xs at sum d = record {
        first = record {
          within = d.within;
          before = λ k h. false_unless (passes (total none plus f (take k xs))) (λ q. true_or_false _ (still xs k at h q) (ap passes (sym (left_total none plus f laws (take at xs))) ∙ d.not_yet));
          now = ap passes (sym (left_total none plus f laws (take (at + 1) xs))) ∙ d.now;
        };
        sum_is = d.sum_is ∙ left_total none plus f laws (take at xs);
      }
