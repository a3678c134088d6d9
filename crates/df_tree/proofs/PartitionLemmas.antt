-- Items that a predicate holds for, where it holds for those before a place and for none behind it.
use Rattle.std.proofs.Common.{◌≡◌, ◌≤◌, ◌<◌, ◌+◌, ◌-◌, ℕ, Bool, true, false, cond, zero, suc, List, [], ◌∷◌, ◌++◌, Some, None, length, refl, sym, ap, ◌∙◌, arith, subst, length-append}
use Rattle.std.specs.Prelude.{take, drop, get_or, slice_get}
use Rattle.std.specs.List.{AllByRecursion, filter}
use Rattle.std.proofs.lemmas.List.{append-nil}
use Rattle.std.proofs.Math.Seq.{take-suc, split_at}
use Rattle.df_tree.specs.Laws.{MonoidLaws, total}
use denote.Param.Weighed.{at_most}
use Rattle.df_tree.specs.Leaves.{leaves_of_parts, items, rank_above}
use Rattle.df_tree.specs.Partitions.{IsBoundary, IsPartitioned, IsPlaceWithSum}
use Rattle.df_tree.proofs.LeafLemmas.{drop-within, items-append, items-three, leaves-append, take-within}
use Rattle.df_tree.proofs.FoundLemmas.{item_more, true_or_false}
use Rattle.df_tree.proofs.Sums.{left_total, total-append}

module _ {X : Type 0} (P : X → Type 0) where
  pub all-append : (xs ys : List X) → AllByRecursion P xs → AllByRecursion P ys → AllByRecursion P (xs ++ ys)
  all-append [] ys h k = k
  all-append (x ∷ xs) ys h k = (h.0, all-append xs ys h.1 k)

  pub all_first : (xs ys : List X) → AllByRecursion P (xs ++ ys) → AllByRecursion P xs
  all_first [] ys h = tt
  all_first (x ∷ xs) ys h = (h.0, all_first xs ys h.1)

  pub all_second : (xs ys : List X) → AllByRecursion P (xs ++ ys) → AllByRecursion P ys
  all_second [] ys h = h
  all_second (x ∷ xs) ys h = all_second xs ys h.1

  all_at : (xs : List X) (i : ℕ) (x : X) → AllByRecursion P xs → slice_get xs i ≡ Some x → P x
  all_at [] zero x h e = cc e
  all_at [] (suc i) x h e = cc e
  all_at (z ∷ xs) zero x h e = let is : z ≡ x = cc e in subst P is h.0
  all_at (z ∷ xs) (suc i) x h e = all_at xs i x h.1 e

  -- one item further on
  pub all_next : (xs : List X) (at : ℕ) (x : X) → AllByRecursion P (take at xs) → at < length xs → x ≡ get_or xs at x → P x → AllByRecursion P (take (at + 1) xs)
  all_next xs at x h n e p =
      let a : suc at ≡ at + 1 = omega arith in
      subst (λ m. AllByRecursion P (take m xs)) a
      (subst (λ ys. AllByRecursion P ys) (sym (take-suc xs at x n ∙ ap (λ y. take at xs ++ y ∷ []) (sym e))) (all-append (take at xs) (x ∷ []) h (p, tt)))

module _ {I : Type 0} (holds : I → Bool) where
  pub partitioned_first : (xs ys : List I) → IsPartitioned {I = I} holds (xs ++ ys) → IsPartitioned {I = I} holds xs
  partitioned_first [] ys h = tt
  partitioned_first (x ∷ xs) ys h = (λ e. all_first (λ y. holds y ≡ false) xs ys (h.0 e), partitioned_first xs ys h.1)

  pub partitioned_second : (xs ys : List I) → IsPartitioned {I = I} holds (xs ++ ys) → IsPartitioned {I = I} holds ys
  partitioned_second [] ys h = h
  partitioned_second (x ∷ xs) ys h = partitioned_second xs ys h.1

  -- it holds for no item behind one for which it does not hold
  pub none_behind : (xs ys : List I) (i : ℕ) (x : I) → slice_get xs i ≡ Some x → holds x ≡ false → IsPartitioned {I = I} holds (xs ++ ys) → AllByRecursion (λ y. holds y ≡ false) ys
  none_behind [] ys zero x e f h = cc e
  none_behind [] ys (suc i) x e f h = cc e
  none_behind (z ∷ xs) ys zero x e f h = let is : z ≡ x = cc e in all_second (λ y. holds y ≡ false) xs ys (h.0 (ap holds is ∙ f))
  none_behind (z ∷ xs) ys (suc i) x e f h = none_behind xs ys i x e f h.1

  -- it holds for each item before one for which it holds
  holds_here : (z : I) (xs : List I) (i : ℕ) (x : I) → (holds z ≡ false → AllByRecursion (λ y. holds y ≡ false) xs) → slice_get xs i ≡ Some x → holds x ≡ true → holds z ≡ true
  holds_here z xs i x h e t = by_answer (holds z) refl where
    by_answer : (b : Bool) → holds z ≡ b → holds z ≡ true
    by_answer true a = a
    by_answer false a = absurd (true_or_false (holds x) t (all_at (λ y. holds y ≡ false) xs i x (h a) e))

  all_to : (xs : List I) (i : ℕ) (x : I) → IsPartitioned {I = I} holds xs → length xs ≡ suc i → slice_get xs i ≡ Some x → holds x ≡ true → AllByRecursion (λ y. holds y ≡ true) xs
  all_to [] i x h n e t = tt
  all_to (z ∷ []) zero x h n e t = let is : z ≡ x = cc e in (ap holds is ∙ t, tt)
  all_to (z ∷ w ∷ xs) zero x h n e t = absurd (omega (arith, n))
  all_to (z ∷ xs) (suc i) x h n e t = (holds_here z xs i x h.0 e t, all_to xs i x h.1 (omega (arith, n)) e t)

  pub all_up_to_last : (xs : List I) (x : I) → IsPartitioned {I = I} holds xs → Some x ≡ slice_get xs (length xs - 1) → holds x ≡ true → AllByRecursion (λ y. holds y ≡ true) xs
  all_up_to_last [] x h e t = tt
  all_up_to_last (z ∷ xs) x h e t =
      let n : length (z ∷ xs) - 1 ≡ length xs = omega arith in
      all_to (z ∷ xs) (length xs) x h refl (ap (slice_get (z ∷ xs)) (sym n) ∙ sym e) t

  pub all_of_none : (xs : List I) → None ≡ slice_get xs (length xs - 1) → AllByRecursion (λ y. holds y ≡ true) xs
  all_of_none [] e = tt
  all_of_none (z ∷ xs) e = absurd (there (z ∷ xs) (length xs) (omega arith) (let n : length (z ∷ xs) - 1 ≡ length xs = omega arith in e ∙ ap (slice_get (z ∷ xs)) n)) where
    there : (xs : List I) (i : ℕ) → i < length xs → None ≡ slice_get xs i → ⊥
    there [] i h e = omega (arith, h)
    there (x ∷ xs) zero h e = cc e
    there (x ∷ xs) (suc i) h e = there xs i (omega (arith, h)) e

  -- from the first item on for which it does not hold, it holds for none
  pub none_from : (xs : List I) (at : ℕ) (x : I) → IsPartitioned {I = I} holds xs → at < length xs → x ≡ get_or xs at x → holds x ≡ false → AllByRecursion (λ y. holds y ≡ false) (drop at xs)
  none_from [] at x h n e f = absurd (omega (arith, n))
  none_from (z ∷ xs) zero x h n e f = (ap holds (sym e) ∙ f, h.0 (ap holds (sym e) ∙ f))
  none_from (z ∷ xs) (suc at) x h n e f = none_from xs at x h.1 (omega (arith, n)) e f

  -- the items that it holds for are those before its place
  filter_none : (xs : List I) → AllByRecursion (λ y. holds y ≡ false) xs → filter holds xs ≡ []
  filter_none [] h = refl
  filter_none (x ∷ xs) h = ap (λ b. cond b (x ∷ filter holds xs) (filter holds xs)) h.0 ∙ filter_none xs h.1

  pub filter_before : (xs : List I) (n : ℕ) → AllByRecursion (λ y. holds y ≡ true) (take n xs) → AllByRecursion (λ y. holds y ≡ false) (drop n xs) → filter holds xs ≡ take n xs
  filter_before [] zero h k = refl
  filter_before [] (suc n) h k = refl
  filter_before (x ∷ xs) zero h k = filter_none (x ∷ xs) k
  filter_before (x ∷ xs) (suc n) h k = ap (λ b. cond b (x ∷ filter holds xs) (filter holds xs)) h.0 ∙ ap (λ l. x ∷ l) (filter_before xs n h.1 k)

-- the items of one part more
pub items_more : {I : Type 0} (ks : List (List (List I × ℕ) × ℕ)) (at : ℕ) (k : List (List I × ℕ) × ℕ) → at < length ks → k ≡ get_or ks at k
    → items {I = I} (leaves_of_parts {I = I} (take (at + 1) ks)) ≡ items {I = I} (leaves_of_parts {I = I} (take at ks)) ++ items {I = I} k.0
items_more {I = I} ks at k h e =
    let a : at + 1 ≡ suc at = omega arith in
    ap (λ n. items {I = I} (leaves_of_parts {I = I} (take n ks))) a
    ∙ ap (λ l. items {I = I} (leaves_of_parts {I = I} l)) (take-suc ks at k h ∙ ap (λ y. take at ks ++ y ∷ []) (sym e))
    ∙ ap (λ l. items {I = I} l) (leaves-append {I = I} (take at ks) (k ∷ []))
    ∙ ap (λ l. items {I = I} (leaves_of_parts {I = I} (take at ks) ++ l)) (append-nil k.0)
    ∙ items-append {I = I} (leaves_of_parts {I = I} (take at ks)) k.0

-- the items before a part, in it and behind it
pub items_around : {I : Type 0} (ks : List (List (List I × ℕ) × ℕ)) (at : ℕ) (k : List (List I × ℕ) × ℕ) → at < length ks → k ≡ get_or ks at k
    → items {I = I} (leaves_of_parts {I = I} ks) ≡ items {I = I} (leaves_of_parts {I = I} (take at ks)) ++ (items {I = I} k.0 ++ items {I = I} (leaves_of_parts {I = I} (drop (suc at) ks)))
items_around {I = I} ks at k h e =
    ap (λ l. items {I = I} (leaves_of_parts {I = I} l)) (split_at ks at k h ∙ ap (λ l. take at ks ++ l ∷ drop (suc at) ks) (sym e))
    ∙ ap (λ l. items {I = I} l) (leaves-append {I = I} (take at ks) (k ∷ drop (suc at) ks))
    ∙ items-three {I = I} (leaves_of_parts {I = I} (take at ks)) k.0 (leaves_of_parts {I = I} (drop (suc at) ks))

-- the rank of a part is below that of all
pub part_lower : {I : Type 0} (ks : List (List (List I × ℕ) × ℕ)) (at : ℕ) (k : List (List I × ℕ) × ℕ) → at < length ks → k ≡ get_or ks at k → k.1 < rank_above {I = I} ks
part_lower ks at k n e = let m = at_most (λ k. k.1 + 1) ks at k n in let same : k.1 + 1 ≡ (get_or ks at k).1 + 1 = ap (λ k. k.1 + 1) e in omega (arith, m, same)

module _ {I : Type 0} (holds : I → Bool) (ks : List (List (List I × ℕ) × ℕ)) (at : ℕ) (k : List (List I × ℕ) × ℕ) (h : IsPartitioned {I = I} holds (items {I = I} (leaves_of_parts {I = I} ks))) (n : at < length ks) (e : k ≡ get_or ks at k) where
  from_here : IsPartitioned {I = I} holds (items {I = I} k.0 ++ items {I = I} (leaves_of_parts {I = I} (drop (suc at) ks)))
  from_here = partitioned_second holds (items {I = I} (leaves_of_parts {I = I} (take at ks))) _ (subst (λ xs. IsPartitioned {I = I} holds xs) (items_around ks at k n e) h)

  pub partitioned_part : IsPartitioned {I = I} holds (items {I = I} k.0)
  partitioned_part = partitioned_first holds (items {I = I} k.0) (items {I = I} (leaves_of_parts {I = I} (drop (suc at) ks))) from_here

  pub none_further : ((xs : List I) → IsPartitioned {I = I} holds (items {I = I} k.0 ++ xs) → AllByRecursion (λ x. holds x ≡ false) xs) → AllByRecursion (λ x. holds x ≡ false) (items {I = I} (leaves_of_parts {I = I} (drop (suc at) ks)))
  none_further f = f _ from_here

  pub all_further : AllByRecursion (λ x. holds x ≡ true) (items {I = I} (leaves_of_parts {I = I} (take at ks))) → AllByRecursion (λ x. holds x ≡ true) (items {I = I} k.0)
      → AllByRecursion (λ x. holds x ≡ true) (items {I = I} (leaves_of_parts {I = I} (take (at + 1) ks)))
  all_further a b = subst (λ xs. AllByRecursion (λ x. holds x ≡ true) xs) (sym (items_more ks at k n e)) (all-append (λ x. holds x ≡ true) (items {I = I} (leaves_of_parts {I = I} (take at ks))) (items {I = I} k.0) a b)

drop_past : {X : Type 0} (xs : List X) (n : ℕ) → length xs < n → drop n xs ≡ []
drop_past [] zero h = refl
drop_past [] (suc n) h = refl
drop_past (x ∷ xs) zero h = absurd (omega (arith, h))
drop_past (x ∷ xs) (suc n) h = drop_past xs n (omega (arith, h))

-- where it holds for all items the parts end there
pub boundary_end : {I M : Type 0} (none : M) (plus : M → M → M) (f : I → M) (holds : I → Bool) (ks : List (List (List I × ℕ) × ℕ)) (at skipped : ℕ) (sum : M) → at ≡ length ks
    → skipped ≡ length (items {I = I} (leaves_of_parts {I = I} (take at ks))) → sum ≡ total none plus f (items {I = I} (leaves_of_parts {I = I} (take at ks)))
    → AllByRecursion (λ x. holds x ≡ true) (items {I = I} (leaves_of_parts {I = I} (take at ks))) → IsBoundary {I = I} {M = M} none plus f holds ks (length ks) skipped sum
boundary_end {I = I} {M = M} none plus f holds ks at skipped sum e s m b =
    subst (λ n. IsBoundary {I = I} {M = M} none plus f holds ks n skipped sum) e (record {
      within = omega (arith, e);
      skipped_is = s;
      sum_is = m;
      before = b;
      behind = subst (λ l. AllByRecursion (λ x. holds x ≡ false) (items {I = I} (leaves_of_parts {I = I} l))) (sym (drop_past ks (suc at) (omega (arith, e)))) tt;
    })

module _ {I M : Type 0} (none : M) (plus : M → M → M) (f : I → M) (laws : MonoidLaws none plus) where
  -- the sum with one item more
  pub sum_next : (xs : List I) (at : ℕ) (sum next mine : M) (x : I) → sum ≡ total none plus f (take at xs) → at < length xs → x ≡ get_or xs at x → mine ≡ f x → next ≡ plus sum mine
      → next ≡ total none plus f (take (at + 1) xs)
  sum_next xs at sum next mine x e h is m n = item_more none plus f laws xs at none sum next mine x (e ∙ sym (left_total none plus f laws (take at xs))) h is m n ∙ left_total none plus f laws (take (at + 1) xs)

  module _ (holds : I → Bool) (ks : List (List (List I × ℕ) × ℕ)) (at skipped : ℕ) (sum : M) (r : IsBoundary {I = I} {M = M} none plus f holds ks at skipped sum) (k : List (List I × ℕ) × ℕ) (n : at < length ks) (e : k ≡ get_or ks at k) where
    part_within : (count : ℕ) → count ≤ length (items {I = I} k.0) → skipped + count ≤ length (items {I = I} (leaves_of_parts {I = I} ks))
    part_within count m =
        let a = ap length (items_around {I = I} ks at k n e) in
        let b = length-append (items {I = I} (leaves_of_parts {I = I} (take at ks))) (items {I = I} k.0 ++ items {I = I} (leaves_of_parts {I = I} (drop (suc at) ks))) in
        let c = length-append (items {I = I} k.0) (items {I = I} (leaves_of_parts {I = I} (drop (suc at) ks))) in
        omega (arith, a, b, c, m, r.skipped_is)

    -- the place in a part is one in all of them
    pub place_further : (count : ℕ) (mine whole : M) → IsPlaceWithSum {I = I} {M = M} none plus f holds (items {I = I} k.0) count mine → whole ≡ plus sum mine
        → IsPlaceWithSum {I = I} {M = M} none plus f holds (items {I = I} (leaves_of_parts {I = I} ks)) (skipped + count) whole
    place_further count mine whole p w =
        let front : List I = items {I = I} (leaves_of_parts {I = I} (take at ks)) in
        let part : List I = items {I = I} k.0 in
        let back : List I = items {I = I} (leaves_of_parts {I = I} (drop (suc at) ks)) in
        let far : skipped + count ≡ length front + count = ap (λ m. m + count) r.skipped_is in
        let taken : take (skipped + count) (items {I = I} (leaves_of_parts {I = I} ks)) ≡ front ++ take count part
        = ap (λ l. take (skipped + count) l) (items_around {I = I} ks at k n e) ∙ take-within front part back count (skipped + count) far p.place.within in
        let dropped : drop (skipped + count) (items {I = I} (leaves_of_parts {I = I} ks)) ≡ drop count part ++ back
        = ap (λ l. drop (skipped + count) l) (items_around {I = I} ks at k n e) ∙ drop-within front part back count (skipped + count) far p.place.within in
        record {
          place = record {
            within = part_within count p.place.within;
            before = subst (λ xs. AllByRecursion (λ x. holds x ≡ true) xs) (sym taken) (all-append (λ x. holds x ≡ true) front (take count part) r.before p.place.before);
            behind = subst (λ xs. AllByRecursion (λ x. holds x ≡ false) xs) (sym dropped) (all-append (λ x. holds x ≡ false) (drop count part) back p.place.behind r.behind);
          };
          sum_is = w ∙ ap (λ m. plus m mine) r.sum_is ∙ ap (plus (total none plus f front)) p.sum_is ∙ sym (total-append none plus f laws front (take count part)) ∙ ap (total none plus f) (sym taken);
        }
