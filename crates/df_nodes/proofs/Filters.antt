-- Filters of lists that are parted by their test, and fronts of fronts.
use Rattle.std.proofs.Common.{◌≡◌, ℕ, zero, suc, ◌+◌, ◌-◌, ◌<◌, ◌≤◌, min, Bool, true, false, cond, not, List, [], ◌∷◌, ◌++◌, length, take, drop, filter, ◌⊎◌, inl, inr, refl, sym, ap, ◌∙◌, arith, append-nil, length-take}
use Rattle.std.specs.Prelude.{T, ◌&&◌}
use Rattle.std.specs.List.{list_all}
use Rattle.std.proofs.lemmas.Bool.{cases_lt}
use Rattle.std.proofs.lemmas.List.{take-append-drop, take-take, take_all, drop_all, drop-take}
use Rattle.std.proofs.lemmas.List.Elements.{filter-append}
use Rattle.df_delta.proofs.Collected.{T-first, T-second, T-both}

module _ {X : Type 0} where
  pub filter_all : (p : X → Bool) (xs : List X) → T (list_all p xs) → filter p xs ≡ xs
  filter_all p [] h = refl
  filter_all p (x ∷ xs) h =
      elim (p x) as (λ b. T (b && list_all p xs) → cond b (x ∷ filter p xs) (filter p xs) ≡ x ∷ xs) [
        | true ↦ λ k. ap (λ l. x ∷ l) (filter_all p xs k)
        | false ↦ λ k. absurd k
      ] h

  pub filter_none : (p : X → Bool) (xs : List X) → T (list_all (λ x. not (p x)) xs) → filter p xs ≡ []
  filter_none p [] h = refl
  filter_none p (x ∷ xs) h =
      elim (p x) as (λ b. T (not b && list_all (λ x. not (p x)) xs) → cond b (x ∷ filter p xs) (filter p xs) ≡ []) [
        | true ↦ λ k. absurd k
        | false ↦ λ k. filter_none p xs k
      ] h

  -- two tests that agree where a third holds
  pub filter_same : (c p q : X → Bool) → ((x : X) → T (c x) → p x ≡ q x) → (xs : List X) → T (list_all c xs) → filter p xs ≡ filter q xs
  filter_same c p q same [] h = refl
  filter_same c p q same (x ∷ xs) h =
      ap (λ b. cond b (x ∷ filter p xs) (filter p xs)) (same x (T-first (c x) _ h))
      ∙ ap (λ l. cond (q x) (x ∷ l) l) (filter_same c p q same xs (T-second (c x) _ h))

  -- what passes stands in front
  pub filter_front : (p : X → Bool) (xs : List X) (n : ℕ) → T (list_all p (take n xs)) → T (list_all (λ x. not (p x)) (drop n xs)) → filter p xs ≡ take n xs
  filter_front p xs n front back =
      ap (filter p) (sym (take-append-drop n xs))
      ∙ filter-append p (take n xs) (drop n xs)
      ∙ ap (λ l. l ++ filter p (drop n xs)) (filter_all p (take n xs) front)
      ∙ ap (λ l. take n xs ++ l) (filter_none p (drop n xs) back)
      ∙ append-nil (take n xs)

  -- what passes stands behind
  pub filter_back : (p : X → Bool) (xs : List X) (n : ℕ) → T (list_all (λ x. not (p x)) (take n xs)) → T (list_all p (drop n xs)) → filter p xs ≡ drop n xs
  filter_back p xs n front back =
      ap (filter p) (sym (take-append-drop n xs))
      ∙ filter-append p (take n xs) (drop n xs)
      ∙ ap (λ l. l ++ filter p (drop n xs)) (filter_none p (take n xs) front)
      ∙ filter_all p (drop n xs) back

  pub front_of_take : (p : X → Bool) (xs : List X) (a b : ℕ) → T (list_all p (take a xs)) → T (list_all p (take a (take b xs)))
  front_of_take p [] zero zero h = tt
  front_of_take p [] zero (suc b) h = tt
  front_of_take p [] (suc a) zero h = tt
  front_of_take p [] (suc a) (suc b) h = tt
  front_of_take p (x ∷ xs) zero b h = tt
  front_of_take p (x ∷ xs) (suc a) zero h = tt
  front_of_take p (x ∷ xs) (suc a) (suc b) h = T-both (p x) _ (T-first (p x) _ h) (front_of_take p xs a b (T-second (p x) _ h))

  pub all_take : (p : X → Bool) (xs : List X) (b : ℕ) → T (list_all p xs) → T (list_all p (take b xs))
  all_take p [] zero h = tt
  all_take p [] (suc b) h = tt
  all_take p (x ∷ xs) zero h = tt
  all_take p (x ∷ xs) (suc b) h = T-both (p x) _ (T-first (p x) _ h) (all_take p xs b (T-second (p x) _ h))

  pub back_of_take : (p : X → Bool) (xs : List X) (a b : ℕ) → T (list_all p (drop a xs)) → T (list_all p (drop a (take b xs)))
  back_of_take p [] zero zero h = tt
  back_of_take p [] zero (suc b) h = tt
  back_of_take p [] (suc a) zero h = tt
  back_of_take p [] (suc a) (suc b) h = tt
  back_of_take p (x ∷ xs) zero b h = all_take p (x ∷ xs) b h
  back_of_take p (x ∷ xs) (suc a) zero h = tt
  back_of_take p (x ∷ xs) (suc a) (suc b) h = back_of_take p xs a b h

  take_twice : (k m : ℕ) (xs : List X) → take k (take m xs) ≡ take (min m k) xs
  take_twice k m xs = by_case (cases_lt m k)
    where
      by_case : (m < k) ⊎ (k ≤ m) → take k (take m xs) ≡ take (min m k) xs
      by_case (inl lt) =
          let l = length-take m xs in
          let e : min m k ≡ m = omega arith in
          take_all k (take m xs) (omega arith) ∙ ap (λ n. take n xs) (sym e)
      by_case (inr le) = let e : min m k ≡ k = omega arith in take-take k m xs le ∙ ap (λ n. take n xs) (sym e)

  -- the first k of the items from one index up to another
  pub take_between : (k from stop : ℕ) (xs : List X) → take k (drop from (take stop xs)) ≡ drop from (take (from + min (stop - from) k) xs)
  take_between k from stop xs = by_case (cases_lt stop from)
    where
      by_case : (stop < from) ⊎ (from ≤ stop) → take k (drop from (take stop xs)) ≡ drop from (take (from + min (stop - from) k) xs)
      by_case (inl lt) =
          let l = length-take stop xs in
          let e : min (stop - from) k ≡ 0 = omega arith in
          ap (take k) (drop_all from (take stop xs) (omega arith))
          ∙ take_nil k
          ∙ sym (drop-take from 0 xs)
          ∙ ap (λ n. drop from (take (from + n) xs)) (sym e)
        where
          take_nil : (k : ℕ) → ◌≡◌ {A = List X} (take k []) []
          take_nil zero = refl
          take_nil (suc k) = refl
      by_case (inr le) =
          let e : stop ≡ from + (stop - from) = omega arith in
          ap (λ n. take k (drop from (take n xs))) e
          ∙ ap (take k) (drop-take from (stop - from) xs)
          ∙ take_twice k (stop - from) (drop from xs)
          ∙ sym (drop-take from (min (stop - from) k) xs)

  -- a filter of a filter, and of fewer items
  pub filter_twice : (p q : X → Bool) (xs : List X) → filter p (filter q xs) ≡ filter (λ x. q x && p x) xs
  filter_twice p q [] = refl
  filter_twice p q (x ∷ xs) =
      elim (q x) as (λ b. filter p (cond b (x ∷ filter q xs) (filter q xs)) ≡ cond (b && p x) (x ∷ filter (λ x. q x && p x) xs) (filter (λ x. q x && p x) xs)) [
        | true ↦ ap (λ l. cond (p x) (x ∷ l) l) (filter_twice p q xs)
        | false ↦ filter_twice p q xs
      ]

  pub fewer_of_filter : (p r : X → Bool) (xs : List X) → length (filter p (filter r xs)) ≤ length (filter p xs)
  fewer_of_filter p r [] = omega arith
  fewer_of_filter p r (x ∷ xs) =
      let rest = fewer_of_filter p r xs in
      elim (r x) as (λ b. length (filter p (cond b (x ∷ filter r xs) (filter r xs))) ≤ length (cond (p x) (x ∷ filter p xs) (filter p xs))) [
        | true ↦ elim (p x) as (λ c. length (cond c (x ∷ filter p (filter r xs)) (filter p (filter r xs))) ≤ length (cond c (x ∷ filter p xs) (filter p xs))) [ true ↦ omega arith | false ↦ rest ]
        | false ↦ elim (p x) as (λ c. length (filter p (filter r xs)) ≤ length (cond c (x ∷ filter p xs) (filter p xs))) [ true ↦ omega arith | false ↦ rest ]
      ]

  pub filter_length : (p : X → Bool) (xs : List X) → length (filter p xs) ≤ length xs
  filter_length p [] = omega arith
  filter_length p (x ∷ xs) =
      let rest = filter_length p xs in
      elim (p x) as (λ b. length (cond b (x ∷ filter p xs) (filter p xs)) ≤ suc (length xs)) [ true ↦ omega arith | false ↦ omega arith ]
