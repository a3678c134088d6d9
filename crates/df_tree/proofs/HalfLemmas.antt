-- Parts of which one is halved.
use Rattle.std.proofs.Common.{◌≡◌, ◌≤◌, ◌<◌, ◌+◌, ℕ, zero, suc, List, [], ◌∷◌, ◌++◌, length, refl, sym, ap, ◌∙◌, arith, append_assoc, length-append, subst}
use Rattle.std.specs.Prelude.{slice_set, take, drop, get_or}
use Rattle.std.specs.List.{insert, remove}
use denote.Param.Weighed.{most}
use Rattle.df_tree.specs.Leaves.{items, leaves_of_parts, total, Kept}
use Rattle.df_tree.proofs.LeafLemmas.{items-one, leaves-append}
use Rattle.df_tree.proofs.PlanLemmas.{kept-append, kept_empty, kept_refl, total_sum}

pub rejoined : {X : Type 0} (n : ℕ) (xs : List X) → xs ≡ take n xs ++ drop n xs
rejoined zero [] = refl
rejoined (suc n) [] = refl
rejoined zero (x ∷ xs) = refl
rejoined (suc n) (x ∷ xs) = ap (λ l. x ∷ l) (rejoined n xs)

module _ {I : Type 0} where
  -- items in two parts, each with as much room
  pub kept_halves : (xs fs bs : List I) (n s t u : ℕ) → fs ≡ take n xs → bs ≡ drop n xs → s ≤ t → s ≤ u → Kept {I = I} ((xs, s) ∷ []) ((fs, t) ∷ (bs, u) ∷ [])
  kept_halves xs fs bs n s t u f b v w =
      let cut : xs ≡ fs ++ bs = rejoined n xs ∙ ap (λ l. l ++ drop n xs) (sym f) ∙ ap (λ l. fs ++ l) (sym b) in
      let all = ap length cut in
      let both = length-append fs bs in
      record {
        items = ap (λ l. fs ++ l) (items-one {I = I} bs u) ∙ sym cut ∙ sym (items-one {I = I} xs s);
        ready = λ p r.
            let here = r.0 in
            let e : length xs ≡ length fs + length bs = omega (arith, all, both) in
            let d = ap (total p) e in
            let sum = total_sum p (length fs) (length bs) in
            (omega (arith, here, d, sum, v), (omega (arith, here, d, sum, w), tt));
      }

  -- parts in two lists
  pub leaves_halves : (ks fs bs : List (List (List I × ℕ) × ℕ)) (n : ℕ) → fs ≡ take n ks → bs ≡ drop n ks → leaves_of_parts {I = I} ks ≡ leaves_of_parts {I = I} fs ++ leaves_of_parts {I = I} bs
  leaves_halves ks fs bs n f b = ap (λ l. leaves_of_parts {I = I} l) (rejoined n ks ∙ ap (λ l. l ++ drop n ks) (sym f) ∙ ap (λ l. fs ++ l) (sym b)) ∙ leaves-append {I = I} fs bs

  -- another part at an index
  pub kept_set : (ks : List (List (List I × ℕ) × ℕ)) (at : ℕ) (k l : List (List I × ℕ) × ℕ) → at < length ks → k ≡ get_or ks at k → Kept {I = I} k.0 l.0 → Kept {I = I} (leaves_of_parts {I = I} ks) (leaves_of_parts {I = I} (slice_set ks at l))
  kept_set [] at k l h e p = absurd (omega (arith, h))
  kept_set (j ∷ ks) zero k l h e p = kept-append {I = I} j.0 l.0 (leaves_of_parts ks) (leaves_of_parts ks) (subst (λ k. Kept {I = I} k.0 l.0) e p) (kept_refl {I = I} (leaves_of_parts ks))
  kept_set (j ∷ ks) (suc at) k l h e p = kept-append {I = I} j.0 j.0 (leaves_of_parts ks) (leaves_of_parts (slice_set ks at l)) (kept_refl {I = I} j.0) (kept_set ks at k l (omega (arith, h)) e p)

  pub rank_set : (ks : List (List (List I × ℕ) × ℕ)) (at : ℕ) (k l : List (List I × ℕ) × ℕ) → at < length ks → k ≡ get_or ks at k → l.1 ≤ k.1 → most (λ k. k.1 + 1) (slice_set ks at l) ≤ most (λ k. k.1 + 1) ks
  rank_set [] at k l h e p = absurd (omega (arith, h))
  rank_set (j ∷ ks) zero k l h e p = let f = ap (λ k. k.1) e in omega (arith, f, p)
  rank_set (j ∷ ks) (suc at) k l h e p = let more = rank_set ks at k l (omega (arith, h)) e p in omega (arith, more)

  -- two parts in place of the one at an index
  pub kept_two : (ks : List (List (List I × ℕ) × ℕ)) (at b : ℕ) (k l m : List (List I × ℕ) × ℕ) → b ≡ at + 1 → at < length ks → k ≡ get_or ks at k → Kept {I = I} k.0 (l.0 ++ m.0) → Kept {I = I} (leaves_of_parts {I = I} ks) (leaves_of_parts {I = I} (insert (slice_set ks at l) b m))
  kept_two [] at b k l m n h e p = absurd (omega (arith, h))
  kept_two (j ∷ ks) at zero k l m n h e p = absurd (omega (arith, n))
  kept_two (j ∷ ks) zero (suc zero) k l m n h e p =
      subst (λ cs. Kept {I = I} (j.0 ++ leaves_of_parts ks) cs) (append_assoc l.0 m.0 (leaves_of_parts ks))
      (kept-append {I = I} j.0 (l.0 ++ m.0) (leaves_of_parts ks) (leaves_of_parts ks) (subst (λ k. Kept {I = I} k.0 (l.0 ++ m.0)) e p) (kept_refl {I = I} (leaves_of_parts ks)))
  kept_two (j ∷ ks) zero (suc (suc b)) k l m n h e p = absurd (omega (arith, n))
  kept_two (j ∷ ks) (suc at) (suc b) k l m n h e p =
      kept-append {I = I} j.0 j.0 (leaves_of_parts ks) (leaves_of_parts (insert (slice_set ks at l) b m)) (kept_refl {I = I} j.0) (kept_two ks at b k l m (omega (arith, n)) (omega (arith, h)) e p)

  pub rank_two : (ks : List (List (List I × ℕ) × ℕ)) (at b : ℕ) (k l m : List (List I × ℕ) × ℕ) → b ≡ at + 1 → at < length ks → k ≡ get_or ks at k → l.1 ≤ k.1 → m.1 ≤ k.1 → most (λ k. k.1 + 1) (insert (slice_set ks at l) b m) ≤ most (λ k. k.1 + 1) ks
  rank_two [] at b k l m n h e p q = absurd (omega (arith, h))
  rank_two (j ∷ ks) at zero k l m n h e p q = absurd (omega (arith, n))
  rank_two (j ∷ ks) zero (suc zero) k l m n h e p q = let f = ap (λ k. k.1) e in omega (arith, f, p, q)
  rank_two (j ∷ ks) zero (suc (suc b)) k l m n h e p q = absurd (omega (arith, n))
  rank_two (j ∷ ks) (suc at) (suc b) k l m n h e p q = let more = rank_two ks at b k l m (omega (arith, n)) (omega (arith, h)) e p q in omega (arith, more)

  -- a part without items is gone
  pub kept_gone : (ks : List (List (List I × ℕ) × ℕ)) (at : ℕ) (k : List (List I × ℕ) × ℕ) → at < length ks → k ≡ get_or ks at k → length (items {I = I} k.0) ≡ 0 → Kept {I = I} (leaves_of_parts {I = I} ks) (leaves_of_parts {I = I} (remove ks at))
  kept_gone [] at k h e n = absurd (omega (arith, h))
  kept_gone (j ∷ ks) zero k h e n =
      let m = ap (λ k. length (items {I = I} k.0)) e in
      kept_empty {I = I} [] j.0 (leaves_of_parts ks) (omega (arith, n, m))
  kept_gone (j ∷ ks) (suc at) k h e n = kept-append {I = I} j.0 j.0 (leaves_of_parts ks) (leaves_of_parts (remove ks at)) (kept_refl {I = I} j.0) (kept_gone ks at k (omega (arith, h)) e n)
