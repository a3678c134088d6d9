-- Sums of measures, part by part.
use Rattle.std.proofs.Common.{◌≡◌, ◌<◌, ◌+◌, ℕ, zero, suc, List, [], ◌∷◌, ◌++◌, length, sym, ap, ◌∙◌, arith}
use Rattle.std.specs.Prelude.{take, get_or}
use Rattle.df_tree.proofs.LeafLemmas.{items-append}
use Rattle.df_tree.specs.Laws.{MonoidLaws, total}
use Rattle.df_tree.specs.Leaves.{leaves_of_parts, items}

module _ {I M : Type 0} (none : M) (plus : M → M → M) (f : I → M) (laws : MonoidLaws none plus) where
  pub left_total : (ys : List I) → plus none (total none plus f ys) ≡ total none plus f ys
  left_total [] = laws.nothing
  left_total (y ∷ ys) = laws.left (f y) (total none plus f ys)

  pub right_total : (ys : List I) → plus (total none plus f ys) none ≡ total none plus f ys
  right_total [] = laws.nothing
  right_total (y ∷ ys) = laws.right (f y) (total none plus f ys)

  pub total-append : (xs ys : List I) → total none plus f (xs ++ ys) ≡ plus (total none plus f xs) (total none plus f ys)
  total-append [] ys = sym (left_total ys)
  total-append (x ∷ xs) ys = ap (plus (f x)) (total-append xs ys) ∙ sym (laws.associative (f x) (total none plus f xs) (total none plus f ys))

  -- the sum of these cells
  abbrev pub sum : List (List I × ℕ) → M
  sum cs = total none plus f (items {I = I} cs)

  pub sum-append : (cs ds : List (List I × ℕ)) → sum (cs ++ ds) ≡ plus (sum cs) (sum ds)
  sum-append cs ds = ap (total none plus f) (items-append {I = I} cs ds) ∙ total-append (items {I = I} cs) (items {I = I} ds)

  pub further : (ks : List (List (List I × ℕ) × ℕ)) (at : ℕ) (k : List (List I × ℕ) × ℕ) → at < length ks → k ≡ get_or ks at k
      → sum (leaves_of_parts {I = I} (take (suc at) ks)) ≡ plus (sum (leaves_of_parts {I = I} (take at ks))) (sum k.0)
  further [] at k h e = absurd (omega (arith, h))
  further (j ∷ ks) zero k h e = sum-append j.0 [] ∙ right_total (items {I = I} j.0) ∙ ap (λ k. sum k.0) (sym e) ∙ sym (left_total (items {I = I} k.0))
  further (j ∷ ks) (suc at) k h e =
      sum-append j.0 (leaves_of_parts {I = I} (take (suc at) ks))
      ∙ ap (plus (sum j.0)) (further ks at k (omega (arith, h)) e)
      ∙ sym (laws.associative (sum j.0) (sum (leaves_of_parts {I = I} (take at ks))) (sum k.0))
      ∙ ap (λ m. plus m (sum k.0)) (sym (sum-append j.0 (leaves_of_parts {I = I} (take at ks))))

  pub more : (ks : List (List (List I × ℕ) × ℕ)) (at : ℕ) (so_far next mine : M) (k : List (List I × ℕ) × ℕ)
      → so_far ≡ sum (leaves_of_parts {I = I} (take at ks)) → at < length ks → k ≡ get_or ks at k → mine ≡ sum k.0 → next ≡ plus so_far mine
      → next ≡ sum (leaves_of_parts {I = I} (take (at + 1) ks))
  more ks at so_far next mine k e h f' m s =
      let a : suc at ≡ at + 1 = omega arith in
      s ∙ ap (λ x. plus x mine) e ∙ ap (plus (sum (leaves_of_parts {I = I} (take at ks)))) m ∙ sym (further ks at k h f') ∙ ap (λ n. sum (leaves_of_parts {I = I} (take n ks))) a
