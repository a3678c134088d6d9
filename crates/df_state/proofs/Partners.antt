-- Items of a list, and their partners in another, where an item takes the place of another.
use Rattle.std.proofs.Common.{◌≡◌, ◌≢◌, ℕ, zero, suc, ◌+◌, ◌<◌, List, [], ◌∷◌, ◌++◌, length, map, get_or, set, refl, sym, ap, subst, ◌∙◌, arith, ◌⊎◌, inl, inr}
use Rattle.std.proofs.lemmas.List.{get_or-set_same, get_or-set_other}

module _ {A B : Type 0} where
  -- an item that is changed in its place keeps what a function gives
  pub map_set : (f : A → B) (xs : List A) (i : ℕ) (x d : A) → f x ≡ f (get_or xs i d) → map f (set xs i x) ≡ map f xs
  map_set f [] i x d e = refl
  map_set f (y ∷ ys) zero x d e = ap (λ b. b ∷ map f ys) e
  map_set f (y ∷ ys) (suc i) x d e = ap (λ bs. f y ∷ bs) (map_set f ys i x d e)

pub same_or_not : (k i : ℕ) → (k ≡ i) ⊎ (k ≢ i)
same_or_not zero zero = inl refl
same_or_not zero (suc i) = inr (λ e. omega (arith, e))
same_or_not (suc k) zero = inr (λ e. omega (arith, e))
same_or_not (suc k) (suc i) = elim (same_or_not k i) [ inl e ↦ inl (ap suc e) | inr n ↦ inr (λ e. n (omega (arith, e))) ]

module _ {A : Type 0} (P : A → Type 0) where
  pub all_set :
      (xs : List A) (i : ℕ) (x : A) → i < length xs → ((k : ℕ) (d : A) → k < length xs → P (get_or xs k d)) → P x →
      (k : ℕ) (d : A) → k < length xs → P (get_or (set xs i x) k d)
  all_set xs i x lt all h k d below =
      elim (same_or_not k i) [
        | inl e ↦ subst P (sym (ap (λ j. get_or (set xs i x) j d) e ∙ get_or-set_same xs i x d lt)) h
        | inr n ↦ subst P (sym (get_or-set_other xs i k x d n)) (all k d below)
      ]

pub last_item : {B : Type 0} → (ys : List B) (y e : B) → get_or (ys ++ y ∷ []) (length ys) e ≡ y
last_item [] y e = refl
last_item (z ∷ ys) y e = last_item ys y e

pub earlier_item : {B : Type 0} → (ys : List B) (y e : B) (k : ℕ) → k < length ys → get_or (ys ++ y ∷ []) k e ≡ get_or ys k e
earlier_item [] y e k lt = absurd (omega (arith, lt))
earlier_item (z ∷ ys) y e zero lt = refl
earlier_item (z ∷ ys) y e (suc k) lt = earlier_item ys y e k (omega (arith, lt))

pub length-last : {B : Type 0} → (ys : List B) (y : B) → length (ys ++ y ∷ []) ≡ length ys + 1
length-last [] y = refl
length-last (z ∷ ys) y = omega (arith, length-last ys y)

module _ {A B : Type 0} (Q : A → B → Type 0) where
  abbrev pub Pairs : List A → List B → Type 0
  Pairs xs ys = (k : ℕ) (d : A) (e : B) → k < length ys → Q (get_or xs k d) (get_or ys k e)

  pub pairs_push : (xs : List A) (ys : List B) (x : A) (y : B) → length ys < length xs → Pairs xs ys → Q x y → Pairs (set xs (length ys) x) (ys ++ y ∷ [])
  pairs_push xs ys x y lt all h k d e below =
      elim (same_or_not k (length ys)) [
        | inl is ↦
            subst (λ a. Q a (get_or (ys ++ y ∷ []) k e)) (sym (ap (λ j. get_or (set xs (length ys) x) j d) is ∙ get_or-set_same xs (length ys) x d lt))
            (subst (λ b. Q x b) (sym (ap (λ j. get_or (ys ++ y ∷ []) j e) is ∙ last_item ys y e)) h)
        | inr n ↦
            let less : k < length ys = omega (arith, below, n, length-last ys y) in
            subst (λ a. Q a (get_or (ys ++ y ∷ []) k e)) (sym (get_or-set_other xs (length ys) k x d n))
            (subst (λ b. Q (get_or xs k d) b) (sym (earlier_item ys y e k less)) (all k d e less))
      ]

  -- what holds of pairs holds of those before the last, also where the last one's partner is changed
  pub pairs_pop : (xs : List A) (ys : List B) (x : A) (y : B) → Pairs xs (ys ++ y ∷ []) → Pairs (set xs (length ys) x) ys
  pairs_pop xs ys x y all k d e below =
      let other : k ≢ length ys = λ is. omega (arith, below, is) in
      subst (λ a. Q a (get_or ys k e)) (sym (get_or-set_other xs (length ys) k x d other))
      (subst (λ b. Q (get_or xs k d) b) (earlier_item ys y e k below) (all k d e (omega (arith, below, length-last ys y))))

  pub pairs_last : (xs : List A) (ys : List B) (y : B) (d : A) → Pairs xs (ys ++ y ∷ []) → Q (get_or xs (length ys) d) y
  pairs_last xs ys y d all =
      subst (λ b. Q (get_or xs (length ys) d) b) (last_item ys y y) (all (length ys) d y (omega (arith, length-last ys y)))
