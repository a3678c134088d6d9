-- Leaves of which one is changed.
use Rattle.std.proofs.Common.{◌≡◌, ◌≤◌, ◌<◌, ◌+◌, ℕ, List, [], ◌∷◌, ◌++◌, length, refl, sym, ap, ◌∙◌, arith, append_assoc, length-append}
use Rattle.std.specs.Prelude.{slice_set}
use Rattle.std.specs.List.{insert, remove}
use Rattle.df_tree.specs.Leaves.{items, Edited}
use Rattle.df_tree.proofs.LeafLemmas.{insert-within, items-append, remove-within, set-within}

module _ {I : Type 0} where
  pub edited_leaf : (xs : List I) (s t at : ℕ) (edit : List I → ℕ → List I) (cost : ℕ) → at < length xs → s ≤ t + cost → Edited {I = I} ((xs, s) ∷ []) ((edit xs at, t) ∷ []) at edit cost
  edited_leaf xs s t at edit cost h l = record { front = []; run = (xs, s); back = []; rest = at; room = t; before = refl; index_is = omega arith; within = h; after = refl; cost_is = l }

  pub edited_within : (fs rs ss gs : List (List I × ℕ)) (index at : ℕ) (edit : List I → ℕ → List I) (cost : ℕ) → index ≡ length (items {I = I} fs) + at
      → Edited {I = I} rs ss at edit cost → Edited {I = I} (fs ++ (rs ++ gs)) (fs ++ (ss ++ gs)) index edit cost
  edited_within fs rs ss gs index at edit cost e d =
      let n = ap length (items-append {I = I} fs d.front) in
      let m = length-append (items {I = I} fs) (items {I = I} d.front) in
      record {
        front = fs ++ d.front;
        run = d.run;
        back = d.back ++ gs;
        rest = d.rest;
        room = d.room;
        before = ap (λ l. fs ++ (l ++ gs)) d.before ∙ ap (λ l. fs ++ l) (append_assoc d.front (d.run ∷ d.back) gs) ∙ sym (append_assoc fs d.front (d.run ∷ (d.back ++ gs)));
        index_is = omega (arith, e, d.index_is, n, m);
        within = d.within;
        after = ap (λ l. fs ++ (l ++ gs)) d.after ∙ ap (λ l. fs ++ l) (append_assoc d.front ((edit d.run.0 d.rest, d.room) ∷ d.back) gs) ∙ sym (append_assoc fs d.front ((edit d.run.0 d.rest, d.room) ∷ (d.back ++ gs)));
        cost_is = d.cost_is;
      }

  module _ (old new : List (List I × ℕ)) (index : ℕ) (edit : List I → ℕ → List I) (cost : ℕ) (d : Edited {I = I} old new index edit cost) where
    items_before : items {I = I} old ≡ items {I = I} d.front ++ (d.run.0 ++ items {I = I} d.back)
    items_before = ap (λ l. items {I = I} l) d.before ∙ items-append {I = I} d.front (d.run ∷ d.back)

    items_after : items {I = I} new ≡ items {I = I} d.front ++ (edit d.run.0 d.rest ++ items {I = I} d.back)
    items_after = ap (λ l. items {I = I} l) d.after ∙ items-append {I = I} d.front ((edit d.run.0 d.rest, d.room) ∷ d.back)

    pub edited_in : index < length (items {I = I} old)
    edited_in =
        let n = ap length items_before in
        let m = length-append (items {I = I} d.front) (d.run.0 ++ items {I = I} d.back) in
        let k = length-append d.run.0 (items {I = I} d.back) in
        omega (arith, n, m, k, d.index_is, d.within)

  pub items_put : (old new : List (List I × ℕ)) (index : ℕ) (x : I) → Edited {I = I} old new index (λ xs i. slice_set xs i x) 1 → items {I = I} new ≡ slice_set (items {I = I} old) index x
  items_put old new index x d =
      items_after old new index _ 1 d
      ∙ sym (set-within (items {I = I} d.front) d.run.0 (items {I = I} d.back) d.rest index x d.index_is d.within)
      ∙ ap (λ l. slice_set l index x) (sym (items_before old new index _ 1 d))

  pub items_put_in : (old new : List (List I × ℕ)) (index side : ℕ) (x : I) → side ≤ 1 → Edited {I = I} old new index (λ xs i. insert xs (i + side) x) 1 → items {I = I} new ≡ insert (items {I = I} old) (index + side) x
  items_put_in old new index side x s d =
      items_after old new index _ 1 d
      ∙ sym (insert-within (items {I = I} d.front) d.run.0 (items {I = I} d.back) (d.rest + side) (index + side) x (omega (arith, d.index_is)) (omega (arith, d.within, s)))
      ∙ ap (λ l. insert l (index + side) x) (sym (items_before old new index _ 1 d))

  pub items_take : (old new : List (List I × ℕ)) (index : ℕ) → Edited {I = I} old new index (λ xs i. remove xs i) 1 → items {I = I} new ≡ remove (items {I = I} old) index
  items_take old new index d =
      items_after old new index _ 1 d
      ∙ sym (remove-within (items {I = I} d.front) d.run.0 (items {I = I} d.back) d.rest index d.index_is d.within)
      ∙ ap (λ l. remove l index) (sym (items_before old new index _ 1 d))

  pub items_release : (old new : List (List I × ℕ)) (index : ℕ) → Edited {I = I} old new index (λ xs i. xs) 1 → items {I = I} new ≡ items {I = I} old
  items_release old new index d = items_after old new index _ 1 d ∙ sym (items_before old new index _ 1 d)
