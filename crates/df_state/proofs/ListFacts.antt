-- Lists by their places.
use Rattle.std.proofs.Common.{◌≡◌, ℕ, zero, suc, ◌+◌, ◌<◌, ◌≤◌, ◌∙◌, List, [], ◌∷◌, ◌++◌, map, length, take, drop, get_or, refl, ap, sym, arith}
use Rattle.std.specs.Prelude.{Some, None, option_map, slice_get, unwrap_or, ◌⊎◌}
use mathlib.Core.Logic.{inl, inr}

pub map-at : {X Y : Type 0} (f : X → Y) (xs : List X) (k : ℕ) → slice_get (map f xs) k ≡ option_map f (slice_get xs k)
map-at f [] k = refl
map-at f (x ∷ xs) zero = refl
map-at f (x ∷ xs) (suc k) = map-at f xs k

pub length-mapped : {X Y : Type 0} (f : X → Y) (xs : List X) → length (map f xs) ≡ length xs
length-mapped f [] = refl
length-mapped f (x ∷ xs) = let h = length-mapped f xs in omega (arith, h)

pub past : {X : Type 0} (xs : List X) (k : ℕ) → slice_get xs k ≡ None → length xs ≤ k
past [] k h = omega arith
past (x ∷ xs) zero h = absurd (cc)
past (x ∷ xs) (suc k) h = let r = past xs k h in omega (arith, r)

pub none-past : {X : Type 0} (xs : List X) (k : ℕ) → length xs ≤ k → slice_get xs k ≡ None
none-past [] k h = refl
none-past (x ∷ xs) zero h = absurd (omega (arith, h))
none-past (x ∷ xs) (suc k) h = none-past xs k (omega (arith, h))

-- lists with the same items at each place are the same
pub same-items : {X : Type 0} (xs ys : List X) → ((k : ℕ) → slice_get xs k ≡ slice_get ys k) → xs ≡ ys
same-items [] [] h = refl
same-items [] (y ∷ ys) h = let e = h 0 in absurd (cc)
same-items (x ∷ xs) [] h = let e = h 0 in absurd (cc)
same-items (x ∷ xs) (y ∷ ys) h =
    let head : x ≡ y = ap (λ o. unwrap_or o x) (h 0) in
    let tail = same-items xs ys (λ k. h (suc k)) in
    ap (λ z. z ∷ xs) head ∙ ap (λ zs. y ∷ zs) tail

pub take-all : {X : Type 0} (xs : List X) (n : ℕ) → length xs ≤ n → take n xs ≡ xs
take-all [] zero h = refl
take-all [] (suc n) h = refl
take-all (x ∷ xs) zero h = absurd (omega (arith, h))
take-all (x ∷ xs) (suc n) h = ap (λ ys. x ∷ ys) (take-all xs n (omega (arith, h)))

-- what is read at a place is what a look-up finds there
pub looked-up : {X : Type 0} (xs : List X) (i : ℕ) (x : X) → i < length xs → x ≡ get_or xs i x → slice_get xs i ≡ Some x
looked-up [] i x h e = absurd (omega (arith, h))
looked-up (y ∷ ys) zero x h e = ap Some (sym e)
looked-up (y ∷ ys) (suc i) x h e = looked-up ys i x (omega (arith, h)) e

-- a place is the last one before the next or an earlier one
pub last-or-before : (k at : ℕ) → k < at + 1 → (k ≡ at) ⊎ (k < at)
last-or-before zero zero h = inl refl
last-or-before (suc k) zero h = absurd (omega (arith, h))
last-or-before zero (suc at) h = inr (omega arith)
last-or-before (suc k) (suc at) h = elim (last-or-before k at (omega (arith, h))) [
  | inl e ↦ inl (omega (arith, e))
  | inr l ↦ inr (omega (arith, l))
]

-- a list that was lent whole, put back
pub put-back : {X : Type 0} (n : ℕ) (now was : List X) → length now ≡ n → length was ≡ n → take n (now ++ drop (length now) was) ≡ now
put-back zero [] [] h k = refl
put-back (suc n) [] [] h k = refl
put-back n [] (y ∷ ys) h k = absurd (omega (arith, h, k))
put-back n (x ∷ xs) [] h k = absurd (omega (arith, h, k))
put-back zero (x ∷ xs) (y ∷ ys) h k = absurd (omega (arith, h))
put-back (suc n) (x ∷ xs) (y ∷ ys) h k = ap (λ zs. x ∷ zs) (put-back n xs ys (omega (arith, h)) (omega (arith, k)))

pub map-more : {X Y : Type 0} (f : X → Y) (xs : List X) (x : X) → map f (xs ++ x ∷ []) ≡ map f xs ++ f x ∷ []
map-more f [] x = refl
map-more f (y ∷ ys) x = ap (λ zs. f y ∷ zs) (map-more f ys x)

pub take-more : {X : Type 0} (xs : List X) (i : ℕ) (d : X) → i < length xs → take (i + 1) xs ≡ take i xs ++ get_or xs i d ∷ []
take-more [] i d h = absurd (omega (arith, h))
take-more (x ∷ xs) zero d h = refl
take-more (x ∷ xs) (suc i) d h =
    let e : suc i + 1 ≡ suc (i + 1) = omega arith in
    ap (λ k. take k (x ∷ xs)) e ∙ ap (λ ys. x ∷ ys) (take-more xs i d (omega (arith, h)))

-- the item at a place, with which the items from there on begin
pub item-at : {X : Type 0} (xs : List X) (i : ℕ) → i < length xs → (x : X) × (slice_get xs i ≡ Some x) × (drop i xs ≡ x ∷ drop (i + 1) xs)
item-at [] i h = absurd (omega (arith, h))
item-at (x ∷ xs) zero h = (x, refl, refl)
item-at (x ∷ xs) (suc i) h =
    let r = item-at xs i (omega (arith, h)) in
    let e : suc (i + 1) ≡ suc i + 1 = omega arith in
    (r.0, r.1, r.2 ∙ ap (λ k. r.0 ∷ drop k (x ∷ xs)) e)

-- the place of an item
pub found : {X : Type 0} (xs : List X) (k : ℕ) (x : X) → slice_get xs k ≡ Some x → (k < length xs) × (get_or xs k x ≡ x)
found [] k x h = absurd (cc)
found (y ∷ ys) zero x h = (omega arith, ap (λ o. unwrap_or o x) h)
found (y ∷ ys) (suc k) x h = let r = found ys k x h in (omega (arith, r.0), r.1)

-- one more item of a list behind those before it
pub take-one-more : {X : Type 0} (xs : List X) (i : ℕ) (x : X) → slice_get xs i ≡ Some x → take (i + 1) xs ≡ take i xs ++ x ∷ []
take-one-more xs i x h = let r = found xs i x h in take-more xs i x r.0 ∙ ap (λ y. take i xs ++ y ∷ []) r.1

pub same-default : {X : Type 0} (xs : List X) (i : ℕ) (d e : X) → i < length xs → get_or xs i d ≡ get_or xs i e
same-default [] i d e h = absurd (omega (arith, h))
same-default (x ∷ xs) zero d e h = refl
same-default (x ∷ xs) (suc i) d e h = same-default xs i d e (omega (arith, h))

pub before-or-not : (k i : ℕ) → (k < i) ⊎ (i ≤ k)
before-or-not k zero = inr (omega arith)
before-or-not zero (suc i) = inl (omega arith)
before-or-not (suc k) (suc i) = elim (before-or-not k i) [
  | inl l ↦ inl (omega (arith, l))
  | inr l ↦ inr (omega (arith, l))
]
