-- Parts of a column of texts: their places in the pool, and the texts there.
use Rattle.std.proofs.Common.{◌≡◌, ℕ, zero, suc, ◌+◌, ◌-◌, ◌≤◌, List, [], ◌∷◌, ◌++◌, length, map, take, drop, Option, refl, sym, ap, subst, ◌∙◌, arith, append_assoc, length-append, length-drop, length-take}
use Rattle.std.specs.Prelude.{Bool, T}
use Rattle.std.specs.List.{list_all}
use Rattle.std.proofs.lemmas.List.{drop-map, length-map, map-append, take-map}
use Rattle.df_column.specs.Picks.{spliced}
use Rattle.df_column.specs.Texts.{ArePlaces, is_below, pool_text}
use Rattle.df_column.proofs.Bools.{T-both, T-first, T-second}
use Rattle.df_column.proofs.PartLemmas.{all_part}
use Rattle.df_column.proofs.SpliceLemmas.{all_behind}

all_both : {X : Type 0} (p : X → Bool) (xs ys : List X) → T (list_all p xs) → T (list_all p ys) → T (list_all p (xs ++ ys))
all_both p [] ys h k = k
all_both p (x ∷ xs) ys h k = T-both _ _ (T-first (p x) _ h) (all_both p xs ys (T-second (p x) _ h) k)

-- the items of a range
pub range_is : {X : Type 0} (low high : ℕ) (xs : List X) → low ≤ high → take (high - low) (drop low xs) ≡ drop low (take high xs)
range_is zero high xs h = let e : high - 0 ≡ high = omega arith in ap (λ n. take n xs) e
range_is (suc low) zero xs h = absurd (omega arith)
range_is (suc low) (suc high) [] h = none (suc high - suc low) where
  none : {X : Type 0} (n : ℕ) → take {A = X} n [] ≡ []
  none zero = refl
  none (suc n) = refl
range_is (suc low) (suc high) (x ∷ xs) h = let e : suc high - suc low ≡ high - low = omega arith in ap (λ n. take n (drop low xs)) e ∙ range_is low high xs (omega arith)

-- the places up to one index, and those from another index on
module _ (ts : List (List ℕ)) (ps none one two : List (Option ℕ)) (low high n : ℕ) (start : none ≡ []) (first : one ≡ none ++ take low ps) (second : two ≡ one ++ take n (drop high ps)) where
  both_parts : two ≡ take low ps ++ take n (drop high ps)
  both_parts = second ∙ ap (λ r. r ++ take n (drop high ps)) (first ∙ ap (λ r. r ++ take low ps) start)

  pub kept_places : length ts ≤ low + n → low ≤ high → high ≤ length ps → n ≡ length ps - high → ArePlaces ts ps → ArePlaces ts two
  kept_places few ordered in_range is h =
      let l = ap length both_parts in
      let a = length-append (take low ps) (take n (drop high ps)) in
      let b = length-take low ps in
      let d = length-take n (drop high ps) in
      let e = length-drop high ps in
      record {
        below = subst (λ ps. T (list_all (is_below (length ts)) ps)) (sym both_parts) (all_both (is_below (length ts)) (take low ps) (take n (drop high ps)) (all_part (is_below (length ts)) low 0 ps h.below) (all_part (is_below (length ts)) n high ps h.below));
        few = omega (arith, few, l, a, b, d, e, is, ordered, in_range);
      }

  pub kept_texts : (now : List (Option (List ℕ))) → map (pool_text ts) ps ≡ now → n ≡ length ps - high → map (pool_text ts) two ≡ take low now ++ drop high now
  kept_texts now seen is =
      ap (map (pool_text ts)) (both_parts ∙ ap (λ r. take low ps ++ r) (all_behind high n ps (omega (arith, is))))
      ∙ map-append (pool_text ts) (take low ps) (drop high ps)
      ∙ ap (λ r. r ++ map (pool_text ts) (drop high ps)) (sym (take-map (pool_text ts) low ps) ∙ ap (take low) seen)
      ∙ ap (λ r. take low now ++ r) (sym (drop-map (pool_text ts) high ps) ∙ ap (drop high) seen)

-- the places up to one index, those from another one on, and those between
module _ (ts : List (List ℕ)) (ps none one two three : List (Option ℕ)) (low middle n m : ℕ) (start : none ≡ []) (first : one ≡ none ++ take low ps) (second : two ≡ one ++ take n (drop middle ps)) (third : three ≡ two ++ take m (drop low ps))
    (n_is : n ≡ length ps - middle) (m_is : m ≡ middle - low) (ordered : low ≤ middle) where
  all_parts : three ≡ (take low ps ++ drop middle ps) ++ drop low (take middle ps)
  all_parts =
      third ∙ ap (λ r. r ++ take m (drop low ps)) (both_parts ts ps none one two low middle n start first second ∙ ap (λ r. take low ps ++ r) (all_behind middle n ps (omega (arith, n_is))))
      ∙ ap (λ r. (take low ps ++ drop middle ps) ++ r) (ap (λ k. take k (drop low ps)) m_is ∙ range_is low middle ps ordered)

  pub rotated_places : middle ≤ length ps → ArePlaces ts ps → ArePlaces ts three
  rotated_places in_range h =
      let p = is_below (length ts) in
      let l = ap length third in
      let k = ap length (both_parts ts ps none one two low middle n start first second) in
      let a = length-append two (take m (drop low ps)) in
      let b = length-append (take low ps) (take n (drop middle ps)) in
      let d = length-take low ps in
      let e = length-take n (drop middle ps) in
      let f = length-drop middle ps in
      let g = length-take m (drop low ps) in
      let i = length-drop low ps in
      record {
        below = subst (λ ps. T (list_all p ps)) (sym third) (all_both p two (take m (drop low ps)) (subst (λ ps. T (list_all p ps)) (sym (both_parts ts ps none one two low middle n start first second)) (all_both p (take low ps) (take n (drop middle ps)) (all_part p low 0 ps h.below) (all_part p n middle ps h.below))) (all_part p m low ps h.below));
        few = omega (arith, l, k, a, b, d, e, f, g, i, h.few, n_is, m_is, ordered, in_range);
      }

  pub rotated_texts : (now : List (Option (List ℕ))) → map (pool_text ts) ps ≡ now → map (pool_text ts) three ≡ take low now ++ (drop middle now ++ drop low (take middle now))
  rotated_texts now seen =
      let f = pool_text ts in
      ap (map f) all_parts
      ∙ map-append f (take low ps ++ drop middle ps) (drop low (take middle ps))
      ∙ ap (λ r. r ++ map f (drop low (take middle ps))) (map-append f (take low ps) (drop middle ps))
      ∙ append_assoc (map f (take low ps)) (map f (drop middle ps)) (map f (drop low (take middle ps)))
      ∙ ap (λ r. r ++ (map f (drop middle ps) ++ map f (drop low (take middle ps)))) (sym (take-map f low ps) ∙ ap (take low) seen)
      ∙ ap (λ r. take low now ++ (r ++ map f (drop low (take middle ps)))) (sym (drop-map f middle ps) ∙ ap (drop middle) seen)
      ∙ ap (λ r. take low now ++ (drop middle now ++ r)) (sym (drop-map f low (take middle ps)) ∙ ap (drop low) (sym (take-map f middle ps) ∙ ap (take middle) seen))

-- the parts of what is made of two
front_of : {X : Type 0} (n : ℕ) (xs ys : List X) → n ≡ length xs → take n (xs ++ ys) ≡ xs
front_of zero [] ys e = refl
front_of zero (x ∷ xs) ys e = absurd (omega (arith, e))
front_of (suc n) [] ys e = absurd (omega (arith, e))
front_of (suc n) (x ∷ xs) ys e = ap (λ r. x ∷ r) (front_of n xs ys (omega (arith, e)))

back_of : {X : Type 0} (n : ℕ) (xs ys : List X) → n ≡ length xs → drop n (xs ++ ys) ≡ ys
back_of zero [] ys e = refl
back_of zero (x ∷ xs) ys e = absurd (omega (arith, e))
back_of (suc n) [] ys e = absurd (omega (arith, e))
back_of (suc n) (x ∷ xs) ys e = back_of n xs ys (omega (arith, e))

-- items that are added behind those that stay, and then moved to their place
module _ {X Y : Type 0} (f : X → Y) (low high m : ℕ) (xs kept all texts : List X) (more : List Y) (stay : kept ≡ take low xs ++ drop high xs) (added : map f all ≡ map f kept ++ more) (ordered : low ≤ high) (in_range : high ≤ length xs) (m_is : m ≡ low + (length xs - high)) where
  front_is : low ≡ length (map f (take low xs))
  front_is = let a = length-map (take low xs) f in let b = length-take low xs in omega (arith, a, b, ordered, in_range)

  both_is : map f kept ≡ map f (take low xs) ++ map f (drop high xs)
  both_is = ap (map f) stay ∙ map-append f (take low xs) (drop high xs)

  long : m ≡ length (map f kept)
  long =
      let a = length-map kept f in
      let b = ap length stay in
      let d = length-append (take low xs) (drop high xs) in
      let e = length-take low xs in
      let g = length-drop high xs in
      omega (arith, a, b, d, e, g, m_is, ordered, in_range)

  pub rotated_within : m ≤ length all
  rotated_within =
      let a = length-map all f in
      let b = ap length added in
      let d = length-append (map f kept) more in
      omega (arith, a, b, d, long)

  pub rotated_made : texts ≡ take low all ++ (drop m all ++ drop low (take m all)) → map f texts ≡ spliced low high more (map f xs)
  rotated_made made =
      let p = map f (take low xs) in
      let q = map f (drop high xs) in
      let whole : map f all ≡ p ++ (q ++ more) = added ∙ ap (λ r. r ++ more) both_is ∙ append_assoc p q more in
      let first : map f (take low all) ≡ p = sym (take-map f low all) ∙ ap (take low) whole ∙ front_of low p (q ++ more) front_is in
      let last : map f (drop m all) ≡ more = sym (drop-map f m all) ∙ ap (drop m) added ∙ back_of m (map f kept) more long in
      let middle : map f (drop low (take m all)) ≡ q =
      sym (drop-map f low (take m all)) ∙ ap (drop low) (sym (take-map f m all) ∙ ap (take m) added ∙ front_of m (map f kept) more long ∙ both_is) ∙ back_of low p q front_is in
      ap (map f) made
      ∙ map-append f (take low all) (drop m all ++ drop low (take m all))
      ∙ ap (λ r. map f (take low all) ++ r) (map-append f (drop m all) (drop low (take m all)))
      ∙ ap (λ r. r ++ (map f (drop m all) ++ map f (drop low (take m all)))) first
      ∙ ap (λ r. p ++ (r ++ map f (drop low (take m all)))) last
      ∙ ap (λ r. p ++ (more ++ r)) middle
      ∙ ap (λ r. r ++ (more ++ q)) (sym (take-map f low xs))
      ∙ ap (λ r. take low (map f xs) ++ (more ++ r)) (sym (drop-map f high xs))
