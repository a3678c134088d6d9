-- Which numbers are in a list, and filters that agree on its numbers.
use Rattle.std.proofs.Common.{◌≡◌, ℕ, Bool, true, false, cond, ◌∙◌, List, [], ◌∷◌, ◌++◌, filter, refl, ap, sym}
use Rattle.std.specs.Prelude.{◌&&◌, ◌||◌, ◌==◌, find, Option, Some, None}
use Rattle.std.specs.List.{list_all}
use Rattle.std.proofs.lemmas.Bool.{and_parts, and_from, or_left, or_right, eqb-true, eq-eqb, false≢true}
use Rattle.std.proofs.lemmas.List.Folds.{list_any-append}
use Rattle.df_frame.specs.Numbers.{has_number}

pub has-here : (x : ℕ) (xs : List ℕ) → has_number (x ∷ xs) x ≡ true
has-here x xs = or_left (x == x) (has_number xs x) (eq-eqb x x refl)

pub has-later : (x : ℕ) (xs : List ℕ) (n : ℕ) → has_number xs n ≡ true → has_number (x ∷ xs) n ≡ true
has-later x xs n h = or_right (x == n) (has_number xs n) h

pub has-append : (xs ys : List ℕ) (n : ℕ) → has_number (xs ++ ys) n ≡ (has_number xs n || has_number ys n)
has-append xs ys n = list_any-append (λ m. m == n) xs ys

has-cond : (b : Bool) (x : ℕ) (xs : List ℕ) (n : ℕ) → has_number (cond b (x ∷ xs) xs) n ≡ ((b && (x == n)) || has_number xs n)
has-cond true x xs n = refl
has-cond false x xs n = refl

kept-or : (b e p r : Bool) → (e ≡ true → b ≡ p) → ((b && e) || (p && r)) ≡ (p && (e || r))
kept-or true true true r h = refl
kept-or true true false r h = let e = h refl in cc
kept-or true false true r h = refl
kept-or true false false r h = refl
kept-or false true true r h = let e = h refl in cc
kept-or false true false r h = refl
kept-or false false true r h = refl
kept-or false false false r h = refl

and-no : (b : Bool) → (b && false) ≡ false
and-no true = refl
and-no false = refl

-- a filter keeps the numbers that pass
pub has-filter : (p : ℕ → Bool) (xs : List ℕ) (n : ℕ) → has_number (filter p xs) n ≡ (p n && has_number xs n)
has-filter p [] n = sym (and-no (p n))
has-filter p (x ∷ xs) n =
    has-cond (p x) x (filter p xs) n
    ∙ (ap (λ r. (p x && (x == n)) || r) (has-filter p xs n)
    ∙ kept-or (p x) (x == n) (p n) (has_number xs n) (λ e. ap p (eqb-true x n e)))

-- all pass where each number does
pub all-from : (p : ℕ → Bool) (xs : List ℕ) → ((n : ℕ) → has_number xs n ≡ true → p n ≡ true) → list_all p xs ≡ true
all-from p [] h = refl
all-from p (x ∷ xs) h =
    and_from (p x) (list_all p xs) (h x (has-here x xs)) (all-from p xs (λ n m. h n (has-later x xs n m)))

passes-at : (p : ℕ → Bool) (x n : ℕ) (b : Bool) (rest : Bool) → (x == n) ≡ b → p x ≡ true → (b || rest) ≡ true → (rest ≡ true → p n ≡ true) → p n ≡ true
passes-at p x n true rest e h m later = sym (ap p (eqb-true x n e)) ∙ h
passes-at p x n false rest e h m later = later m

pub all-to : (p : ℕ → Bool) (xs : List ℕ) (n : ℕ) → list_all p xs ≡ true → has_number xs n ≡ true → p n ≡ true
all-to p [] n h m = absurd (false≢true m)
all-to p (x ∷ xs) n h m =
    let parts = and_parts (p x) (list_all p xs) h in
    passes-at p x n (x == n) (has_number xs n) refl parts.0 m (λ k. all-to p xs n parts.1 k)

-- filters that agree on the numbers of a list keep the same
pub filter-same : (p q : ℕ → Bool) (xs : List ℕ) → ((n : ℕ) → has_number xs n ≡ true → p n ≡ q n) → filter p xs ≡ filter q xs
filter-same p q [] h = refl
filter-same p q (x ∷ xs) h =
    ap (λ b. cond b (x ∷ filter p xs) (filter p xs)) (h x (has-here x xs))
    ∙ ap (λ ys. cond (q x) (x ∷ ys) ys) (filter-same p q xs (λ n m. h n (has-later x xs n m)))

-- a filter that all pass keeps all
pub filter-all : (p : ℕ → Bool) (xs : List ℕ) → ((n : ℕ) → has_number xs n ≡ true → p n ≡ true) → filter p xs ≡ xs
filter-all p [] h = refl
filter-all p (x ∷ xs) h =
    ap (λ b. cond b (x ∷ filter p xs) (filter p xs)) (h x (has-here x xs))
    ∙ ap (λ ys. x ∷ ys) (filter-all p xs (λ n m. h n (has-later x xs n m)))

-- and one that none pass keeps none
pub filter-none : (p : ℕ → Bool) (xs : List ℕ) → ((n : ℕ) → has_number xs n ≡ true → p n ≡ false) → filter p xs ≡ []
filter-none p [] h = refl
filter-none p (x ∷ xs) h =
    ap (λ b. cond b (x ∷ filter p xs) (filter p xs)) (h x (has-here x xs))
    ∙ filter-none p xs (λ n m. h n (has-later x xs n m))

filter-cond : {T : Type 0} (p : T → Bool) (b : Bool) (x : T) (xs : List T) → filter p (cond b (x ∷ xs) xs) ≡ cond b (cond (p x) (x ∷ filter p xs) (filter p xs)) (filter p xs)
filter-cond p true x xs = refl
filter-cond p false x xs = refl

cond-both : {T : Type 0} (b c : Bool) (x : T) (xs : List T) → cond b (cond c (x ∷ xs) xs) xs ≡ cond (c && b) (x ∷ xs) xs
cond-both true true x xs = refl
cond-both true false x xs = refl
cond-both false true x xs = refl
cond-both false false x xs = refl

-- filtering twice is filtering by both
pub filter-filter : {T : Type 0} (p q : T → Bool) (xs : List T) → filter p (filter q xs) ≡ filter (λ x. p x && q x) xs
filter-filter p q [] = refl
filter-filter p q (x ∷ xs) =
    filter-cond p (q x) x (filter q xs)
    ∙ (cond-both (q x) (p x) x (filter p (filter q xs))
    ∙ ap (λ ys. cond (p x && q x) (x ∷ ys) ys) (filter-filter p q xs))

-- nothing found is in no place
found-none : (p : ℕ → Bool) (x : ℕ) (b : Bool) (later : Option ℕ) → p x ≡ b → cond b (Some x) later ≡ None → (b ≡ false) × (later ≡ None)
found-none p x true later e h = cc
found-none p x false later e h = (refl, h)

fails-at : (p : ℕ → Bool) (x n : ℕ) (b : Bool) (rest : Bool) → (x == n) ≡ b → p x ≡ false → (b || rest) ≡ true → (rest ≡ true → p n ≡ false) → p n ≡ false
fails-at p x n true rest e h m later = sym (ap p (eqb-true x n e)) ∙ h
fails-at p x n false rest e h m later = later m

pub find-none : (p : ℕ → Bool) (xs : List ℕ) → find p xs ≡ None → (n : ℕ) → has_number xs n ≡ true → p n ≡ false
find-none p [] h n m = absurd (false≢true m)
find-none p (x ∷ xs) h n m =
    let here = found-none p x (p x) (find p xs) refl h in
    fails-at p x n (x == n) (has_number xs n) refl here.0 m (λ k. find-none p xs here.1 n k)
