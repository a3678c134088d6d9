-- Parts of one rank that hold items.
use Rattle.std.proofs.Common.{◌≡◌, ◌≤◌, ◌<◌, ◌+◌, ◌-◌, ℕ, zero, suc, List, [], ◌∷◌, ◌++◌, length, map, refl, sym, ap, ◌∙◌, arith, subst, length-append}
use Rattle.std.specs.Prelude.{slice_set, take, drop, get_or, max, Option, Some, None}
use Rattle.std.specs.List.{insert, remove}
use Rattle.std.proofs.lemmas.List.{length-take-le, length-drop, take_more}
use denote.Param.Weighed.{most-append}
use Rattle.df_tree.specs.Laws.{total}
use Rattle.df_tree.specs.declared.seq.Link.{Link}
use Rattle.df_tree.specs.Leaves.{alike, items, rank_above, leaves_of_parts, Kept}
use Rattle.df_tree.specs.Level.{AllButOne, AllParts, AreLevel, IsHalved, IsLevelLink, IsPart, IsSummed, InBoth}
use Rattle.df_tree.proofs.LeafLemmas.{items-append}

module _ {I : Type 0} where
  pub parts_take : (r n : ℕ) (ks : List (List (List I × ℕ) × ℕ)) → AllParts {I = I} r ks → AllParts {I = I} r (take n ks)
  parts_take r zero [] a = tt
  parts_take r zero (k ∷ ks) a = tt
  parts_take r (suc n) [] a = tt
  parts_take r (suc n) (k ∷ ks) a = (a.0, parts_take r n ks a.1)

  pub parts_drop : (r n : ℕ) (ks : List (List (List I × ℕ) × ℕ)) → AllParts {I = I} r ks → AllParts {I = I} r (drop n ks)
  parts_drop r zero [] a = tt
  parts_drop r zero (k ∷ ks) a = a
  parts_drop r (suc n) [] a = tt
  parts_drop r (suc n) (k ∷ ks) a = parts_drop r n ks a.1

  pub parts_alike : (r : ℕ) (ks ls : List (List (List I × ℕ) × ℕ)) → map (alike {I = I}) ks ≡ map (alike {I = I}) ls → AllParts {I = I} r ks → AllParts {I = I} r ls
  parts_alike r [] [] e a = tt
  parts_alike r [] (l ∷ ls) e a = cc e
  parts_alike r (k ∷ ks) [] e a = cc e
  parts_alike r (k ∷ ks) (l ∷ ls) e a =
      let first : alike {I = I} k ≡ alike {I = I} l = cc e in
      let rest : map (alike {I = I}) ks ≡ map (alike {I = I}) ls = cc e in
      let m : k.1 ≡ l.1 = ap (λ p. p.1) first in
      let n : length (items {I = I} k.0) ≡ length (items {I = I} l.0) = ap (λ p. length p.0) first in
      (record { rank_is = sym m ∙ a.0.rank_is; some = omega (arith, n, a.0.some) }, parts_alike r ks ls rest a.1)

  pub parts_set : (r at : ℕ) (ks : List (List (List I × ℕ) × ℕ)) (l : List (List I × ℕ) × ℕ) → AllParts {I = I} r ks → IsPart {I = I} r l → AllParts {I = I} r (slice_set ks at l)
  parts_set r zero [] l a h = tt
  parts_set r (suc at) [] l a h = tt
  parts_set r zero (k ∷ ks) l a h = (h, a.1)
  parts_set r (suc at) (k ∷ ks) l a h = (a.0, parts_set r at ks l a.1 h)

  pub part_at : (r at : ℕ) (ks : List (List (List I × ℕ) × ℕ)) (k : List (List I × ℕ) × ℕ) → AllParts {I = I} r ks → at < length ks → k ≡ get_or ks at k → IsPart {I = I} r k
  part_at r at [] k a h e = absurd (omega (arith, h))
  part_at r zero (j ∷ ks) k a h e = subst (IsPart {I = I} r) (sym e) a.0
  part_at r (suc at) (j ∷ ks) k a h e = part_at r at ks k a.1 (omega (arith, h)) e

  -- another part at an index, and one more behind it
  pub parts_two : (r at b : ℕ) (ks : List (List (List I × ℕ) × ℕ)) (l m : List (List I × ℕ) × ℕ) → b ≡ at + 1 → at < length ks → AllParts {I = I} r ks → IsPart {I = I} r l → IsPart {I = I} r m
      → AllParts {I = I} r (insert (slice_set ks at l) b m)
  parts_two r at b [] l m n h a p q = absurd (omega (arith, h))
  parts_two r at zero (j ∷ ks) l m n h a p q = absurd (omega (arith, n))
  parts_two r zero (suc zero) (j ∷ ks) l m n h a p q = (p, (q, a.1))
  parts_two r zero (suc (suc b)) (j ∷ ks) l m n h a p q = absurd (omega (arith, n))
  parts_two r (suc at) (suc b) (j ∷ ks) l m n h a p q = (a.0, parts_two r at b ks l m (omega (arith, n)) (omega (arith, h)) a.1 p q)

  pub rank_at_most : (r : ℕ) (ks : List (List (List I × ℕ) × ℕ)) → AllParts {I = I} r ks → rank_above {I = I} ks ≤ r + 1
  rank_at_most r [] a = omega arith
  rank_at_most r (k ∷ ks) a = let h = rank_at_most r ks a.1 in omega (arith, h, a.0.rank_is)

  pub rank_over_parts : (r : ℕ) (ks : List (List (List I × ℕ) × ℕ)) → AllParts {I = I} r ks → 0 < length ks → rank_above {I = I} ks ≡ r + 1
  rank_over_parts r [] a h = absurd (omega (arith, h))
  rank_over_parts r (k ∷ ks) a h = let m = rank_at_most r ks a.1 in omega (arith, m, a.0.rank_is)

  pub level_of : (r : ℕ) (ks : List (List (List I × ℕ) × ℕ)) → AllParts {I = I} r ks → AreLevel {I = I} ks
  level_of r [] a = tt
  level_of r (k ∷ ks) a =
      let n = rank_over_parts r (k ∷ ks) a (omega arith) in
      let e : r ≡ rank_above {I = I} (k ∷ ks) - 1 = omega (arith, n) in
      subst (λ r. AllParts {I = I} r (k ∷ ks)) e a

  pub some_items : (r : ℕ) (ks : List (List (List I × ℕ) × ℕ)) → AllParts {I = I} r ks → 0 < length ks → 0 < length (items {I = I} (leaves_of_parts {I = I} ks))
  some_items r [] a h = absurd (omega (arith, h))
  some_items r (k ∷ ks) a h =
      let n = ap length (items-append {I = I} k.0 (leaves_of_parts {I = I} ks)) in
      let m = length-append (items {I = I} k.0) (items {I = I} (leaves_of_parts {I = I} ks)) in
      omega (arith, n, m, a.0.some)

  pub level_alike : (ks ls : List (List (List I × ℕ) × ℕ)) → map (alike {I = I}) ks ≡ map (alike {I = I}) ls → AreLevel {I = I} ls → AreLevel {I = I} ks
  level_alike ks ls e h = level_of _ ks (parts_alike _ ls ks (sym e) h)

  pub rank_set : (ks : List (List (List I × ℕ) × ℕ)) (at : ℕ) (k l : List (List I × ℕ) × ℕ) → k ≡ get_or ks at k → l.1 ≡ k.1 → rank_above {I = I} (slice_set ks at l) ≡ rank_above {I = I} ks
  rank_set [] at k l e h = refl
  rank_set (j ∷ ks) zero k l e h = ap (λ n. max (n + 1) (rank_above {I = I} ks)) (h ∙ ap (λ k. k.1) e)
  rank_set (j ∷ ks) (suc at) k l e h = ap (max (j.1 + 1)) (rank_set ks at k l e h)

  pub rank_two : (ks : List (List (List I × ℕ) × ℕ)) (at b : ℕ) (k l m : List (List I × ℕ) × ℕ) → b ≡ at + 1 → at < length ks → k ≡ get_or ks at k → l.1 ≡ k.1 → m.1 ≡ k.1
      → rank_above {I = I} (insert (slice_set ks at l) b m) ≡ rank_above {I = I} ks
  rank_two [] at b k l m n h e p q = absurd (omega (arith, h))
  rank_two (j ∷ ks) at zero k l m n h e p q = absurd (omega (arith, n))
  rank_two (j ∷ ks) zero (suc zero) k l m n h e p q = let f = ap (λ k. k.1) e in omega (arith, f, p, q)
  rank_two (j ∷ ks) zero (suc (suc b)) k l m n h e p q = absurd (omega (arith, n))
  rank_two (j ∷ ks) (suc at) (suc b) k l m n h e p q = ap (max (j.1 + 1)) (rank_two ks at b k l m (omega (arith, n)) (omega (arith, h)) e p q)

  -- one part further on
  pub rank_more : (ks : List (List (List I × ℕ) × ℕ)) (at rank mine : ℕ) (k : List (List I × ℕ) × ℕ) → rank ≡ rank_above {I = I} (take at ks) → at < length ks → k ≡ get_or ks at k → mine ≡ k.1
      → max rank (mine + 1) ≡ rank_above {I = I} (take (at + 1) ks)
  rank_more ks at rank mine k e h f m =
      let t = ap (rank_above {I = I}) (take_more ks at k h) in
      let p = most-append (λ k. k.1 + 1) (take at ks) (get_or ks at k ∷ []) in
      let q = ap (λ k. k.1) f in
      omega (arith, t, p, q, e, m)

  -- a part of the same rank in the place of one, with items too
  pub level_set : (ks : List (List (List I × ℕ) × ℕ)) (at : ℕ) (k l : List (List I × ℕ) × ℕ) → at < length ks → k ≡ get_or ks at k → l.1 ≡ k.1 → (0 < length (items {I = I} k.0) → 0 < length (items {I = I} l.0)) → AreLevel {I = I} ks
      → AreLevel {I = I} (slice_set ks at l)
  level_set ks at k l within e r n a =
      let p = part_at _ at ks k a within e in
      level_of _ (slice_set ks at l) (parts_set _ at ks l a (record { rank_is = r ∙ p.rank_is; some = n p.some }))

  -- a part that may have lost its items, or that is gone
  pub one_set : (r at : ℕ) (ks : List (List (List I × ℕ) × ℕ)) (l : List (List I × ℕ) × ℕ) → AllParts {I = I} r ks → (0 < length (items {I = I} l.0) → l.1 ≡ r) → AllButOne {I = I} r at (slice_set ks at l)
  one_set r zero [] l a h = tt
  one_set r (suc at) [] l a h = tt
  one_set r zero (k ∷ ks) l a h = (h, a.1)
  one_set r (suc at) (k ∷ ks) l a h = (a.0, one_set r at ks l a.1 h)

  pub one_gone : (r at : ℕ) (ks : List (List (List I × ℕ) × ℕ)) → AllButOne {I = I} r at ks → AllParts {I = I} r (remove ks at)
  one_gone r zero [] a = tt
  one_gone r (suc at) [] a = tt
  one_gone r zero (k ∷ ks) a = a.1
  one_gone r (suc at) (k ∷ ks) a = (a.0, one_gone r at ks a.1)

  pub one_stays : (r at : ℕ) (ks : List (List (List I × ℕ) × ℕ)) (k : List (List I × ℕ) × ℕ) → AllButOne {I = I} r at ks → k ≡ get_or ks at k → 0 < length (items {I = I} k.0) → AllParts {I = I} r ks
  one_stays r at [] k a e n = tt
  one_stays r zero (j ∷ ks) k a e n = (record { rank_is = a.0 (let m = ap (λ k. length (items {I = I} k.0)) e in omega (arith, m, n)); some = let m = ap (λ k. length (items {I = I} k.0)) e in omega (arith, m, n) }, a.1)
  one_stays r (suc at) (j ∷ ks) k a e n = (a.0, one_stays r at ks k a.1 e n)

  -- what a part stores is true of one with the same items and rank
  pub resummed : {M : Type 0} (none : M) (plus : M → M → M) (f : I → M) (count rank : ℕ) (measure : M) (k l : List (List I × ℕ) × ℕ) (from to : Link I M) → items {I = I} l.0 ≡ items {I = I} k.0 → l.1 ≡ k.1 → IsLevelLink {I = I} {M = M} to
      → IsSummed {I = I} {M = M} none plus f count rank measure k from → IsSummed {I = I} {M = M} none plus f count rank measure l to
  resummed none plus f count rank measure k l from to e r v h = record {
    counted = h.counted ∙ ap length (sym e);
    ranked = h.ranked ∙ sym r;
    few = h.few;
    measured = h.measured ∙ ap (total none plus f) (sym e);
    level = v;
  }

  -- the parts of a node of which one may have lost its items, or is gone
  pub lowered : (r : ℕ) (ks made : List (List (List I × ℕ) × ℕ)) → AllParts {I = I} r ks → 0 < length ks → AllParts {I = I} r made
      → AreLevel {I = I} made × ((rank_above {I = I} made ≤ rank_above {I = I} ks) × (0 < length (items {I = I} (leaves_of_parts {I = I} made)) → rank_above {I = I} made ≡ rank_above {I = I} ks))
  lowered r ks [] a h b = (tt, (omega arith, λ n. absurd (omega (arith, n))))
  lowered r ks (m ∷ ms) a h b =
      let x = rank_over_parts r ks a h in
      let y = rank_over_parts r (m ∷ ms) b (omega arith) in
      (level_of r (m ∷ ms) b, (omega (arith, x, y), λ n. y ∙ sym x))

  -- some of the parts of a node
  piece : (r : ℕ) (ks fs : List (List (List I × ℕ) × ℕ)) → AllParts {I = I} r ks → 0 < length ks → AllParts {I = I} r fs → 0 < length fs
      → AreLevel {I = I} fs × ((rank_above {I = I} fs ≡ rank_above {I = I} ks) × (0 < length (items {I = I} (leaves_of_parts {I = I} fs))))
  piece r ks fs a h b i = (level_of r fs b, (rank_over_parts r fs b i ∙ sym (rank_over_parts r ks a h), some_items r fs b i))

  pub front_piece : (ks fs : List (List (List I × ℕ) × ℕ)) (n : ℕ) → fs ≡ take n ks → AreLevel {I = I} ks → 0 < n → n ≤ length ks
      → AreLevel {I = I} fs × ((rank_above {I = I} fs ≡ rank_above {I = I} ks) × (0 < length (items {I = I} (leaves_of_parts {I = I} fs))))
  front_piece ks fs n f a low high =
      let m : length fs ≡ n = ap length f ∙ length-take-le n ks high in
      piece _ ks fs a (omega (arith, low, high)) (subst (λ l. AllParts {I = I} (rank_above {I = I} ks - 1) l) (sym f) (parts_take _ n ks a)) (omega (arith, m, low))

  pub back_piece : (ks bs : List (List (List I × ℕ) × ℕ)) (n : ℕ) → bs ≡ drop n ks → AreLevel {I = I} ks → n < length ks
      → AreLevel {I = I} bs × ((rank_above {I = I} bs ≡ rank_above {I = I} ks) × (0 < length (items {I = I} (leaves_of_parts {I = I} bs))))
  back_piece ks bs n f a high =
      let m : length bs ≡ length ks - n = ap length f ∙ length-drop n ks in
      piece _ ks bs a (omega (arith, high)) (subst (λ l. AllParts {I = I} (rank_above {I = I} ks - 1) l) (sym f) (parts_drop _ n ks a)) (omega (arith, m, high))

  -- two parts of one rank, under a new root
  pub two_level : (k l : List (List I × ℕ) × ℕ) (r : ℕ) → k.1 ≡ r → IsPart {I = I} r l → 0 < length (items {I = I} k.0) → AreLevel {I = I} (k ∷ l ∷ [])
  two_level k l r e p n = level_of r (k ∷ l ∷ []) (record { rank_is = e; some = n }, (p, tt))

  pub halved_second : (o : Option (List (List I × ℕ) × ℕ)) (k : List (List I × ℕ) × ℕ) (old new : List (List I × ℕ)) (rank : ℕ) → o ≡ Some k → InBoth {I = I} o old new rank → IsHalved {I = I} old new rank k
  halved_second o k old new rank e h = subst (λ o. InBoth {I = I} o old new rank) e h

  pub halved_none : (o : Option (List (List I × ℕ) × ℕ)) (old new : List (List I × ℕ)) (rank : ℕ) → o ≡ None → InBoth {I = I} o old new rank → Kept {I = I} old new
  halved_none o old new rank e h = subst (λ o. InBoth {I = I} o old new rank) e h

  pub halved_count : (old new : List (List I × ℕ)) (k : List (List I × ℕ) × ℕ) → Kept {I = I} old (new ++ k.0) → length (items {I = I} old) ≡ length (items {I = I} new) + length (items {I = I} k.0)
  halved_count old new k h =
      let a = ap length h.items in
      let b = ap length (items-append {I = I} new k.0) in
      let c = length-append (items {I = I} new) (items {I = I} k.0) in
      omega (arith, a, b, c)
