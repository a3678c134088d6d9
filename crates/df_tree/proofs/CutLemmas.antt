-- The items before a spot, and those from it on.
use Rattle.std.proofs.Common.{◌≡◌, ◌≤◌, ◌<◌, ◌+◌, ℕ, suc, List, [], ◌∷◌, ◌++◌, length, refl, sym, ap, ◌∙◌, arith, append_assoc}
use Rattle.std.specs.Prelude.{take, drop, get_or}
use Rattle.std.proofs.Math.Seq.{take-append_seam}
use Rattle.df_tree.specs.Leaves.{items, items_of_parts, leaves_of_parts, rank_above}
use Rattle.df_tree.specs.Level.{AreLevel}
use Rattle.df_tree.specs.Spots.{IsSpot}
use Rattle.df_tree.proofs.LeafLemmas.{drop-within, items-three, take-within}
use Rattle.df_tree.proofs.LevelLemmas.{level_of, parts_drop, parts_take, rank_at_most}
use Rattle.df_tree.proofs.SpotLemmas.{here, whole}

drop_seam : {X : Type 0} (xs ys : List X) (y : X) → drop (length xs + 1) (xs ++ y ∷ ys) ≡ ys
drop_seam [] ys y = refl
drop_seam (x ∷ xs) ys y = let e : suc (length xs) + 1 ≡ suc (length xs + 1) = omega arith in ap (λ n. drop n (x ∷ (xs ++ y ∷ ys))) e ∙ drop_seam xs ys y

module _ {I : Type 0} where
  -- some of the parts of a node are level too
  pub level_take : (ps : List (List (List I × ℕ) × ℕ)) (n : ℕ) → AreLevel {I = I} ps → rank_above {I = I} ps < 64 → AreLevel {I = I} (take n ps) × (rank_above {I = I} (take n ps) < 64)
  level_take ps n v h =
      let a = parts_take {I = I} _ n ps v in
      let m = rank_at_most {I = I} _ (take n ps) a in
      (level_of {I = I} _ (take n ps) a, omega (arith, m, h))

  pub level_drop : (ps : List (List (List I × ℕ) × ℕ)) (n : ℕ) → AreLevel {I = I} ps → rank_above {I = I} ps < 64 → AreLevel {I = I} (drop n ps) × (rank_above {I = I} (drop n ps) < 64)
  level_drop ps n v h =
      let a = parts_drop {I = I} _ n ps v in
      let m = rank_at_most {I = I} _ (drop n ps) a in
      (level_of {I = I} _ (drop n ps) a, omega (arith, m, h))

  module _ (ks : List (List (List I × ℕ) × ℕ)) (index at rest : ℕ) (s : IsSpot {I = I} ks index at rest) where
    front_is : take at ks ≡ s.front
    front_is = ap (take at) s.cut ∙ ap (λ n. take n (s.front ++ s.part ∷ s.back)) s.at_is ∙ take-append_seam s.front (s.part ∷ s.back)

    back_is : drop (at + 1) ks ≡ s.back
    back_is = ap (drop (at + 1)) s.cut ∙ ap (λ n. drop (n + 1) (s.front ++ s.part ∷ s.back)) s.at_is ∙ drop_seam s.front s.back s.part

    all : items_of_parts {I = I} ks ≡ items_of_parts {I = I} s.front ++ (items {I = I} s.part.0 ++ items_of_parts {I = I} s.back)
    all = ap (λ l. items {I = I} l) (whole {I = I} ks index at rest s) ∙ items-three {I = I} (leaves_of_parts {I = I} s.front) s.part.0 (leaves_of_parts {I = I} s.back)

    near : rest ≤ length (items {I = I} s.part.0)
    near = omega (arith, s.within)

    -- the items before it
    pub taken : (k : List (List I × ℕ) × ℕ) (front last : List I) → k ≡ get_or ks at k → front ≡ items_of_parts {I = I} (take at ks) → last ≡ take rest (items {I = I} k.0)
        → front ++ last ≡ take index (items_of_parts {I = I} ks)
    taken k front last e f l =
        ap (λ is. is ++ last) (f ∙ ap (λ l. items_of_parts {I = I} l) front_is)
        ∙ ap (λ is. items_of_parts {I = I} s.front ++ is) (l ∙ ap (λ k. take rest (items {I = I} k.0)) (here {I = I} ks index at rest s k e))
        ∙ sym (take-within (items_of_parts {I = I} s.front) (items {I = I} s.part.0) (items_of_parts {I = I} s.back) rest index s.index_is near)
        ∙ ap (take index) (sym all)

    -- the items from there on
    pub dropped : (k : List (List I × ℕ) × ℕ) (first back : List I) → k ≡ get_or ks at k → first ≡ drop rest (items {I = I} k.0) → back ≡ items_of_parts {I = I} (drop (at + 1) ks)
        → first ++ back ≡ drop index (items_of_parts {I = I} ks)
    dropped k first back e f b =
        ap (λ is. first ++ is) (b ∙ ap (λ l. items_of_parts {I = I} l) back_is)
        ∙ ap (λ is. is ++ items_of_parts {I = I} s.back) (f ∙ ap (λ k. drop rest (items {I = I} k.0)) (here {I = I} ks index at rest s k e))
        ∙ sym (drop-within (items_of_parts {I = I} s.front) (items {I = I} s.part.0) (items_of_parts {I = I} s.back) rest index s.index_is near)
        ∙ ap (drop index) (sym all)

    -- items in the place of the one there
    pub replaced_at : (k : List (List I × ℕ) × ℕ) (run : List I) → k ≡ get_or ks at k
        → items_of_parts {I = I} (take at ks) ++ ((take rest (items {I = I} k.0) ++ (run ++ drop (rest + 1) (items {I = I} k.0))) ++ items_of_parts {I = I} (drop (at + 1) ks))
        ≡ take index (items_of_parts {I = I} ks) ++ (run ++ drop (index + 1) (items_of_parts {I = I} ks))
    replaced_at k run e =
        let x : List I = items_of_parts {I = I} (take at ks) in
        let t : List I = take rest (items {I = I} k.0) in
        let d : List I = drop (rest + 1) (items {I = I} k.0) in
        let b : List I = items_of_parts {I = I} (drop (at + 1) ks) in
        let far : index + 1 ≡ length (items_of_parts {I = I} s.front) + (rest + 1) = omega (arith, s.index_is) in
        let mine : d ++ b ≡ drop (index + 1) (items_of_parts {I = I} ks)
        = ap (λ is. d ++ is) (ap (λ l. items_of_parts {I = I} l) back_is)
        ∙ ap (λ is. is ++ items_of_parts {I = I} s.back) (ap (λ k. drop (rest + 1) (items {I = I} k.0)) (here {I = I} ks index at rest s k e))
        ∙ sym (drop-within (items_of_parts {I = I} s.front) (items {I = I} s.part.0) (items_of_parts {I = I} s.back) (rest + 1) (index + 1) far (omega (arith, s.within)))
        ∙ ap (drop (index + 1)) (sym all) in
        ap (λ is. x ++ is) (append_assoc t (run ++ d) b ∙ ap (λ is. t ++ is) (append_assoc run d b))
        ∙ sym (append_assoc x t (run ++ (d ++ b)))
        ∙ ap (λ is. is ++ (run ++ (d ++ b))) (taken k x t e refl refl)
        ∙ ap (λ is. take index (items_of_parts {I = I} ks) ++ (run ++ is)) mine
