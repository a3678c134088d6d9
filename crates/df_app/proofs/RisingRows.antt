-- Numbered rows that rise: two lists of the same rows are one list.
use Rattle.std.proofs.Common.{◌≡◌, ℕ, zero, suc, ◌+◌, ◌<◌, ◌≤◌, Bool, true, false, cond, ◌∙◌, List, [], ◌∷◌, ◌++◌, length, get_or, filter, map, inl, inr, refl, ap, sym, subst, arith}
use Rattle.std.specs.Prelude.{◌⊎◌, ⊤, Contains, flat_map, nat_lt, not}
use Rattle.std.specs.List.{enumerate_from, list_all}
use Rattle.std.specs.List.Sorted.{IsPermutation}
use Rattle.std.proofs.lemmas.Bool.{and_from, and_parts, ltb-true}
use Rattle.std.proofs.lemmas.List.Sorted.{Contains-permutation, IsPermutation-sym}
use Rattle.df_value.specs.declared.cell.Cell.{Cell}
use Rattle.df_frame.specs.declared.state.FrameState.{FrameState}
use Rattle.df_frame.specs.Frames.{IsNumbered}
use Rattle.df_frame.specs.Numbers.{has_number, is_rising}

abbrev pub Rows : Type 0
Rows = List (ℕ × List Cell)

-- an item stands in a list
abbrev pub In : {X : Type 0} → X → List X → Type 0
In x [] = ⊥
In x (y ∷ ys) = (x ≡ y) ⊎ In x ys

-- the numbers of rows are above another, at least another, and below another
abbrev pub Above : ℕ → Rows → Type 0
Above n [] = ⊤
Above n (r ∷ rs) = (n < r.0) × Above n rs

abbrev pub From : ℕ → Rows → Type 0
From n [] = ⊤
From n (r ∷ rs) = (n ≤ r.0) × From n rs

abbrev pub Below : ℕ → Rows → Type 0
Below n [] = ⊤
Below n (r ∷ rs) = (r.0 < n) × Below n rs

-- the numbers rise
abbrev pub Rise : Rows → Type 0
Rise [] = ⊤
Rise (r ∷ rs) = Above r.0 rs × Rise rs

above-in : (n : ℕ) (xs : Rows) (r : ℕ × List Cell) → Above n xs → In r xs → n < r.0
above-in n [] r a i = absurd i
above-in n (x ∷ xs) r a i =
    elim i [
      | inl e ↦ subst (λ (y : ℕ × List Cell). n < y.0) (sym e) a.0
      | inr l ↦ above-in n xs r a.1 l
    ]

first-same : (x y : ℕ × List Cell) (xs ys : Rows) → Above x.0 xs → Above y.0 ys → (x ≡ y) ⊎ In x ys → (y ≡ x) ⊎ In y xs → x ≡ y
first-same x y xs ys a b i j =
    elim i [
      | inl e ↦ e
      | inr k ↦
          elim j [
            | inl e ↦ sym e
            | inr l ↦
                let h = above-in y.0 ys x b k in
                let g = above-in x.0 xs y a l in
                absurd (omega (arith, h, g))
          ]
    ]

later-in : (x y : ℕ × List Cell) (xs ys : Rows) → x ≡ y → Above x.0 xs → ((r : ℕ × List Cell) → In r (x ∷ xs) → In r (y ∷ ys)) →
    (r : ℕ × List Cell) → In r xs → In r ys
later-in x y xs ys e a f r i =
    elim (f r (inr i)) [
      | inl s ↦
          let h = above-in x.0 xs r a i in
          let k : r.0 ≡ x.0 = ap (λ (z : ℕ × List Cell). z.0) (s ∙ sym e) in
          absurd (omega (arith, h, k))
      | inr j ↦ j
    ]

-- two lists of rising numbers with the same rows are the same
pub same-rising : (xs ys : Rows) → Rise xs → Rise ys → ((r : ℕ × List Cell) → In r xs → In r ys) → ((r : ℕ × List Cell) → In r ys → In r xs) → xs ≡ ys
same-rising [] [] a b f g = refl
same-rising [] (y ∷ ys) a b f g = absurd (g y (inl refl))
same-rising (x ∷ xs) [] a b f g = absurd (f x (inl refl))
same-rising (x ∷ xs) (y ∷ ys) a b f g =
    let heads : x ≡ y = first-same x y xs ys a.0 b.0 (f x (inl refl)) (g y (inl refl)) in
    let tails : xs ≡ ys = same-rising xs ys a.1 b.1 (later-in x y xs ys heads a.0 f) (later-in y x ys xs (sym heads) b.0 g) in
    ap (λ z. z ∷ xs) heads ∙ ap (λ zs. y ∷ zs) tails

in-contains : {X : Type 0} (xs : List X) (x : X) (k : ℕ) → k < length xs → get_or xs k x ≡ x → In x xs
in-contains [] x k h e = absurd (omega (arith, h))
in-contains (y ∷ ys) x zero h e = inl (sym e)
in-contains (y ∷ ys) x (suc k) h e = inr (in-contains ys x k (omega (arith, h)) e)

contains-in : {X : Type 0} (xs : List X) (x : X) → In x xs → Contains xs x
contains-in [] x i = absurd i
contains-in (y ∷ ys) x i =
    elim i [
      | inl e ↦ (zero, omega arith, sym e)
      | inr l ↦
          let c = contains-in ys x l in
          let lt = c.1 in
          (suc c.0, omega (arith, lt), c.2)
    ]

moved-in : {X : Type 0} (xs ys : List X) (x : X) → IsPermutation xs ys → In x xs → In x ys
moved-in xs ys x p i = let c = Contains-permutation xs ys x p (contains-in xs x i) in in-contains ys x c.0 c.1 c.2

pub in-left : {X : Type 0} (xs ys : List X) (x : X) → In x xs → In x (xs ++ ys)
in-left [] ys x i = absurd i
in-left (z ∷ zs) ys x i =
    elim i [
      | inl e ↦ inl e
      | inr l ↦ inr (in-left zs ys x l)
    ]

pub in-right : {X : Type 0} (xs ys : List X) (x : X) → In x ys → In x (xs ++ ys)
in-right [] ys x i = i
in-right (z ∷ zs) ys x i = inr (in-right zs ys x i)

in-either : {X : Type 0} (xs ys : List X) (x : X) → In x (xs ++ ys) → In x xs ⊎ In x ys
in-either [] ys x i = inr i
in-either (z ∷ zs) ys x i =
    elim i [
      | inl e ↦ inl (inl e)
      | inr l ↦
          elim (in-either zs ys x l) [
            | inl a ↦ inl (inr a)
            | inr b ↦ inr b
          ]
    ]

into-flat : {X Y : Type 0} (f : X → List Y) (xs : List X) (x : X) (y : Y) → In x xs → In y (f x) → In y (flat_map f xs)
into-flat f [] x y i j = absurd i
into-flat f (z ∷ zs) x y i j =
    elim i [
      | inl e ↦ in-left (f z) (flat_map f zs) y (subst (λ w. In y (f w)) e j)
      | inr l ↦ in-right (f z) (flat_map f zs) y (into-flat f zs x y l j)
    ]

-- what stands in a list that is made of the items of another stands in it in each order of them
pub flat-moved : {X Y : Type 0} (f : X → List Y) (xs ys : List X) → ((x : X) → In x xs → In x ys) → (y : Y) → In y (flat_map f xs) → In y (flat_map f ys)
flat-moved f [] ys all y i = absurd i
flat-moved f (z ∷ zs) ys all y i =
    elim (in-either (f z) (flat_map f zs) y i) [
      | inl a ↦ into-flat f ys z y (all z (inl refl)) a
      | inr b ↦ flat-moved f zs ys (λ x l. all x (inr l)) y b
    ]

-- rows that are made of items in some order, and rise, are those that are made of them in another order, if these rise too
pub ordered : {X : Type 0} (f : X → Rows) (xs ys : List X) → IsPermutation xs ys → Rise (flat_map f xs) → Rise (flat_map f ys) → flat_map f ys ≡ flat_map f xs
ordered f xs ys p a b =
    same-rising (flat_map f ys) (flat_map f xs) b a (flat-moved f ys xs (λ x i. moved-in ys xs x (IsPermutation-sym xs ys p) i))
    (flat-moved f xs ys (λ x i. moved-in xs ys x p i))

pub from-above : (m n : ℕ) (xs : Rows) → m < n → From n xs → Above m xs
from-above m n [] lt h = tt
from-above m n (x ∷ xs) lt h = let le = h.0 in (omega (arith, lt, le), from-above m n xs lt h.1)

pub from-less : (m n : ℕ) (xs : Rows) → m ≤ n → From n xs → From m xs
from-less m n [] lt h = tt
from-less m n (x ∷ xs) lt h = let le = h.0 in (omega (arith, lt, le), from-less m n xs lt h.1)

pub from-append : (n : ℕ) (xs ys : Rows) → From n xs → From n ys → From n (xs ++ ys)
from-append n [] ys h k = k
from-append n (x ∷ xs) ys h k = (h.0, from-append n xs ys h.1 k)

above-append : (n : ℕ) (xs ys : Rows) → Above n xs → Above n ys → Above n (xs ++ ys)
above-append n [] ys h k = k
above-append n (x ∷ xs) ys h k = (h.0, above-append n xs ys h.1 k)

-- rows below a number, and then rows from it on
pub rise-append : (n : ℕ) (xs ys : Rows) → Rise xs → Below n xs → Rise ys → From n ys → Rise (xs ++ ys)
rise-append n [] ys a b c d = c
rise-append n (x ∷ xs) ys a b c d = (above-append x.0 xs ys a.0 (from-above x.0 n ys b.0 d), rise-append n xs ys a.1 b.1 c d)

pub enumerated-from : (n a : ℕ) (xs : List (List Cell)) → n ≤ a → From n (enumerate_from a xs)
enumerated-from n a [] h = tt
enumerated-from n a (x ∷ xs) h = (h, enumerated-from n (a + 1) xs (omega (arith, h)))

pub enumerated-below : (n a : ℕ) (xs : List (List Cell)) → a + length xs ≤ n → Below n (enumerate_from a xs)
enumerated-below n a [] h = tt
enumerated-below n a (x ∷ xs) h = (omega (arith, h), enumerated-below n (a + 1) xs (omega (arith, h)))

pub enumerated-rise : (a : ℕ) (xs : List (List Cell)) → Rise (enumerate_from a xs)
enumerated-rise a [] = tt
enumerated-rise a (x ∷ xs) = (from-above a (a + 1) (enumerate_from (a + 1) xs) (omega arith) (enumerated-from (a + 1) (a + 1) xs (omega arith)), enumerated-rise (a + 1) xs)

all-above : (n : ℕ) (xs : Rows) → list_all (λ m. nat_lt n m) (map (λ r. r.0) xs) ≡ true → Above n xs
all-above n [] h = tt
all-above n (x ∷ xs) h =
    let parts = and_parts (nat_lt n x.0) (list_all (λ m. nat_lt n m) (map (λ r. r.0) xs)) h in
    (ltb-true n x.0 parts.0, all-above n xs parts.1)

all-cond : (q : ℕ → Bool) (b : Bool) (x : ℕ) (xs : List ℕ) → q x ≡ true → list_all q xs ≡ true → list_all q (cond b (x ∷ xs) xs) ≡ true
all-cond q true x xs e r = and_from (q x) (list_all q xs) e r
all-cond q false x xs e r = r

all-filter : (q p : ℕ → Bool) (xs : List ℕ) → list_all q xs ≡ true → list_all q (filter p xs) ≡ true
all-filter q p [] h = refl
all-filter q p (x ∷ xs) h =
    let parts = and_parts (q x) (list_all q xs) h in
    all-cond q (p x) x (filter p xs) parts.0 (all-filter q p xs parts.1)

rising-cond : (b : Bool) (x : ℕ) (xs : List ℕ) → list_all (λ m. nat_lt x m) xs ≡ true → is_rising xs ≡ true → is_rising (cond b (x ∷ xs) xs) ≡ true
rising-cond true x xs e r = and_from (list_all (λ m. nat_lt x m) xs) (is_rising xs) e r
rising-cond false x xs e r = r

-- numbers that a filter keeps rise
rising-filter : (p : ℕ → Bool) (xs : List ℕ) → is_rising xs ≡ true → is_rising (filter p xs) ≡ true
rising-filter p [] h = refl
rising-filter p (x ∷ xs) h =
    let parts = and_parts (list_all (λ m. nat_lt x m) xs) (is_rising xs) h in
    rising-cond (p x) x (filter p xs) (all-filter (λ m. nat_lt x m) p xs parts.0) (rising-filter p xs parts.1)

-- rows whose numbers rise
rising-rise : (xs : Rows) → is_rising (map (λ r. r.0) xs) ≡ true → Rise xs
rising-rise [] h = tt
rising-rise (x ∷ xs) h =
    let parts = and_parts (list_all (λ m. nat_lt x.0 m) (map (λ r. r.0) xs)) (is_rising (map (λ r. r.0) xs)) h in
    (all-above x.0 xs parts.0, rising-rise xs parts.1)

-- those of a sound frame
pub frame-rises : (f : FrameState) → IsNumbered f → Rise f.rows
frame-rises f sound =
    rising-rise f.rows (ap is_rising sound.left ∙ rising-filter (λ n. not (has_number f.deleted n)) f.accepted sound.rising)
