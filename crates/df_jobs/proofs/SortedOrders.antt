-- Rows under rising numbers that come of some parts, each of which has rows under numbers that follow one another: the parts
-- by their first numbers give the rows in this order, whatever order of the parts gives them.
use Rattle.std.proofs.Common.{◌≡◌, ◌∙◌, ◌⊎◌, inl, inr, ℕ, zero, suc, ◌+◌, ◌<◌, ◌≤◌, Bool, true, false, cond, List, [], ◌∷◌, ◌++◌, refl, ap, sym, subst, arith, get_or, length, sum_by, eq-eqb}
use Rattle.std.specs.Prelude.{flat_map, ◌==◌}
use Rattle.std.specs.List.{Contains}
use Rattle.std.specs.List.Sorted.{IsPermutation}
use Rattle.std.proofs.lemmas.Bool.{eqb-true}
use Rattle.std.proofs.lemmas.List.Sorted.{Contains-permutation, IsPermutation-sym, sum_by-IsPermutation}
use Rattle.std.proofs.lemmas.List.Sums.{sum_by-cons, sum_by-append}
use Rattle.df_state.proofs.ListFacts.{before-or-not}

true-or-not : (b : Bool) → (b ≡ true) ⊎ (b ≡ false)
true-or-not true = inl refl
true-or-not false = inr refl

one-if : ℕ → ℕ → ℕ
one-if n k = cond (k == n) 1 0

one-if-same : (n k : ℕ) → k ≡ n → one-if n k ≡ 1
unfolding one-if
one-if-same n k e = ap (λ b. cond b 1 0) (eq-eqb k n e)

one-if-not : (n k : ℕ) → (k == n) ≡ false → one-if n k ≡ 0
unfolding one-if
one-if-not n k e = ap (λ b. cond b 1 0) e

one-if-other : (n k : ℕ) → (k ≡ n → ⊥) → one-if n k ≡ 0
unfolding one-if
one-if-other n k other = elim (true-or-not (k == n)) [
  | inl e ↦ absurd (other (eqb-true k n e))
  | inr e ↦ one-if-not n k e
]

module _ {Y : Type 0} where
  -- the numbers rise, and none is below this one
  abbrev pub Rises : ℕ → List (ℕ × Y) → Type 0
  Rises n [] = Unit {0}
  Rises n (r ∷ rs) = (n ≤ r.0) × Rises (r.0 + 1) rs

  -- the numbers follow one another from this one on
  abbrev pub Follow : ℕ → List (ℕ × Y) → Type 0
  Follow n [] = Unit {0}
  Follow n (r ∷ rs) = (r.0 ≡ n) × Follow (n + 1) rs

  -- a row is among these
  abbrev Has : List (ℕ × Y) → ℕ × Y → Type 0
  Has [] q = ⊥
  Has (r ∷ rs) q = (r ≡ q) ⊎ Has rs q

  -- how many rows have a number
  abbrev times : ℕ → List (ℕ × Y) → ℕ
  times n rs = sum_by (λ r. one-if n r.0) rs

  times-cons : (n : ℕ) (r : ℕ × Y) (rs : List (ℕ × Y)) → times n (r ∷ rs) ≡ one-if n r.0 + times n rs
  times-cons n r rs = sum_by-cons (λ q. one-if n q.0) r rs

  times-append : (n : ℕ) (rs qs : List (ℕ × Y)) → times n (rs ++ qs) ≡ times n rs + times n qs
  times-append n rs qs = sum_by-append (λ q. one-if n q.0) rs qs

  lower : (m n : ℕ) (rs : List (ℕ × Y)) → m ≤ n → Rises n rs → Rises m rs
  lower m n [] le h = tt
  lower m n (r ∷ rs) le h = (let b = h.0 in omega (arith, le, b), h.1)

  following-rise : (n : ℕ) (rs : List (ℕ × Y)) → Follow n rs → Rises n rs
  following-rise n [] h = tt
  following-rise n (r ∷ rs) h =
      let is = h.0 in
      (omega (arith, is), subst (λ m. Rises (m + 1) rs) (sym is) (following-rise (n + 1) rs h.1))

  above : (n : ℕ) (rs : List (ℕ × Y)) (q : ℕ × Y) → Rises n rs → Has rs q → n ≤ q.0
  above n [] q h there = absurd there
  above n (r ∷ rs) q h (inl e) = let b = h.0 in let f = ap (λ (x : ℕ × Y). x.0) e in omega (arith, b, f)
  above n (r ∷ rs) q h (inr there) = let b = h.0 in let c = above (r.0 + 1) rs q h.1 there in omega (arith, b, c)

  none-below : (m n : ℕ) (rs : List (ℕ × Y)) → Rises n rs → m < n → times m rs ≡ 0
  none-below m n [] h lt = refl
  none-below m n (r ∷ rs) h lt =
      let b = h.0 in
      let first = times-cons m r rs in
      let other = one-if-other m r.0 (λ e. omega (arith, e, b, lt)) in
      let rest = none-below m (r.0 + 1) rs h.1 (omega (arith, b, lt)) in
      omega (arith, first, other, rest)

  -- no number stands twice
  once : (n : ℕ) (rs : List (ℕ × Y)) → Rises n rs → (m : ℕ) → times m rs ≤ 1
  once n [] h m = omega arith
  once n (r ∷ rs) h m =
      let first = times-cons m r rs in
      elim (true-or-not (r.0 == m)) [
        | inl e ↦ (
            let is = eqb-true r.0 m e in
            let one = one-if-same m r.0 is in
            let rest = none-below m (r.0 + 1) rs h.1 (omega (arith, is)) in
            omega (arith, first, one, rest))
        | inr e ↦ (
            let none = one-if-not m r.0 e in
            let rest = once (r.0 + 1) rs h.1 m in
            omega (arith, first, none, rest))
      ]

  some-times : (rs : List (ℕ × Y)) (q : ℕ × Y) → Has rs q → 1 ≤ times q.0 rs
  some-times [] q there = absurd there
  some-times (r ∷ rs) q (inl e) =
      let first = times-cons q.0 r rs in
      let one = one-if-same q.0 r.0 (ap (λ (x : ℕ × Y). x.0) e) in
      omega (arith, first, one)
  some-times (r ∷ rs) q (inr there) =
      let first = times-cons q.0 r rs in
      let rest = some-times rs q there in
      omega (arith, first, rest)

  -- numbers that follow one another leave none out
  filled : (k : ℕ) (rs : List (ℕ × Y)) (q : ℕ × Y) (n : ℕ) → Follow k rs → Has rs q → k ≤ n → n ≤ q.0 → 1 ≤ times n rs
  filled k [] q n f there le up = absurd there
  filled k (r ∷ rs) q n f there le up =
      let first = times-cons n r rs in
      let is = f.0 in
      elim (before-or-not k n) [
        | inr far ↦ (
            let one = one-if-same n r.0 (omega (arith, is, le, far)) in
            omega (arith, first, one))
        | inl far ↦ elim there [
          | inl e ↦ absurd (let same = ap (λ (x : ℕ × Y). x.0) e in omega (arith, same, is, far, up))
          | inr h ↦ (
              let rest = filled (k + 1) rs q n f.1 h (omega (arith, far)) up in
              omega (arith, first, rest))
        ]
      ]

  raised : (m n : ℕ) (qs : List (ℕ × Y)) → Rises n qs → ((q : ℕ × Y) → Has qs q → m ≤ q.0) → Rises m qs
  raised m n [] g all = tt
  raised m n (q ∷ qs) g all = (all q (inl refl), g.1)

  append-rises : (n : ℕ) (rs qs : List (ℕ × Y)) → Rises n rs → Rises n qs → ((r q : ℕ × Y) → Has rs r → Has qs q → r.0 < q.0) → Rises n (rs ++ qs)
  append-rises n [] qs h g apart = g
  append-rises n (r ∷ rs) qs h g apart = (
    h.0,
    append-rises (r.0 + 1) rs qs h.1
        (raised (r.0 + 1) n qs g (λ q there. let lt = apart r q (inl refl) there in omega (arith, lt)))
        (λ s q here there. apart s q (inr here) there),
  )

  has-front : (rs qs : List (ℕ × Y)) (q : ℕ × Y) → Has rs q → Has (rs ++ qs) q
  has-front [] qs q there = absurd there
  has-front (r ∷ rs) qs q (inl e) = inl e
  has-front (r ∷ rs) qs q (inr there) = inr (has-front rs qs q there)

  has-back : (rs qs : List (ℕ × Y)) (q : ℕ × Y) → Has qs q → Has (rs ++ qs) q
  has-back [] qs q there = there
  has-back (r ∷ rs) qs q there = inr (has-back rs qs q there)

  has-parts : (rs qs : List (ℕ × Y)) (q : ℕ × Y) → Has (rs ++ qs) q → Has rs q ⊎ Has qs q
  has-parts [] qs q there = inr there
  has-parts (r ∷ rs) qs q (inl e) = inl (inl e)
  has-parts (r ∷ rs) qs q (inr there) = elim (has-parts rs qs q there) [
    | inl h ↦ inl (inr h)
    | inr h ↦ inr h
  ]

  later : (m n : ℕ) (r q : ℕ × Y) (rs qs : List (ℕ × Y)) → Rises m (r ∷ rs) → r ≡ q → ((x : ℕ × Y) → Has (r ∷ rs) x → Has (q ∷ qs) x) → (x : ℕ × Y) → Has rs x → Has qs x
  later m n r q rs qs f same to x there = elim (to x (inr there)) [
    | inl e ↦ absurd (let up = above (r.0 + 1) rs x f.1 there in let is = ap (λ (y : ℕ × Y). y.0) (same ∙ e) in omega (arith, up, is))
    | inr h ↦ h
  ]

  first-same : (m n : ℕ) (r q : ℕ × Y) (rs qs : List (ℕ × Y)) → Rises m (r ∷ rs) → Rises n (q ∷ qs) → Has (q ∷ qs) r → Has (r ∷ rs) q → r ≡ q
  first-same m n r q rs qs f g (inl e) back = sym e
  first-same m n r q rs qs f g (inr h) (inl e) = e
  first-same m n r q rs qs f g (inr h) (inr k) =
      let up = above (q.0 + 1) qs r g.1 h in
      let down = above (r.0 + 1) rs q f.1 k in
      absurd (omega (arith, up, down))

  -- rows under rising numbers are the same where each is among the others
  same-rows : (m n : ℕ) (rs qs : List (ℕ × Y)) → Rises m rs → Rises n qs → ((x : ℕ × Y) → Has rs x → Has qs x) → ((x : ℕ × Y) → Has qs x → Has rs x) → rs ≡ qs
  same-rows m n [] [] f g to back = refl
  same-rows m n [] (q ∷ qs) f g to back = absurd (back q (inl refl))
  same-rows m n (r ∷ rs) [] f g to back = absurd (to r (inl refl))
  same-rows m n (r ∷ rs) (q ∷ qs) f g to back =
      let first = first-same m n r q rs qs f g (to r (inl refl)) (back q (inl refl)) in
      let rest = same-rows (r.0 + 1) (q.0 + 1) rs qs f.1 g.1 (later m n r q rs qs f first to) (later n m q r qs rs g (sym first) back) in
      ap (λ x. x ∷ rs) first ∙ ap (λ xs. q ∷ xs) rest

  module _ {X : Type 0} (f : X → List (ℕ × Y)) where
    has-some : (xs : List X) (q : ℕ × Y) → Has (flat_map f xs) q → (x : X) × Contains xs x × Has (f x) q
    has-some [] q there = absurd there
    has-some (x ∷ xs) q there = elim (has-parts (f x) (flat_map f xs) q there) [
      | inl h ↦ (x, (0, omega arith, refl), h)
      | inr h ↦ (let r = has-some xs q h in let low = r.1.1 in (r.0, (suc r.1.0, omega (arith, low), r.1.2), r.2))
    ]

    some-has : (xs : List X) (x : X) (q : ℕ × Y) (k : ℕ) → k < length xs → get_or xs k x ≡ x → Has (f x) q → Has (flat_map f xs) q
    some-has [] x q k lt e there = absurd (omega (arith, lt))
    some-has (y ∷ xs) x q zero lt e there = has-front (f y) (flat_map f xs) q (subst (λ z. Has (f z) q) (sym e) there)
    some-has (y ∷ xs) x q (suc k) lt e there = has-back (f y) (flat_map f xs) q (some-has xs x q k (omega (arith, lt)) e there)

    times-flat : (n : ℕ) (xs : List X) → times n (flat_map f xs) ≡ sum_by (λ x. times n (f x)) xs
    times-flat n [] = refl
    times-flat n (x ∷ xs) =
        let both = times-append n (f x) (flat_map f xs) in
        let rest = times-flat n xs in
        let all = sum_by-cons (λ y. times n (f y)) x xs in
        omega (arith, both, rest, all)

    moved-has : (xs ys : List X) → IsPermutation xs ys → (q : ℕ × Y) → Has (flat_map f xs) q → Has (flat_map f ys) q
    moved-has xs ys same q there =
        let some = has-some xs q there in
        let other = Contains-permutation xs ys some.0 same some.1 in
        some-has ys some.0 q other.0 other.1 other.2 some.2

    module _ (key : X → ℕ) where
      -- the keys do not fall, and each is the first number of its part, if it has a row
      abbrev pub AreInOrder : ℕ → List X → Type 0
      AreInOrder n [] = Unit {0}
      AreInOrder n (x ∷ xs) = (n ≤ key x) × Follow (key x) (f x) × AreInOrder (key x) xs

      ordered-rise : (n : ℕ) (xs : List X) → AreInOrder n xs → ((m : ℕ) → times m (flat_map f xs) ≤ 1) → Rises n (flat_map f xs)
      ordered-rise n [] o few = tt
      ordered-rise n (x ∷ xs) o few =
          let rest = ordered-rise (key x) xs o.2 (λ m. let both = times-append m (f x) (flat_map f xs) in let one = few m in omega (arith, both, one)) in
          append-rises n (f x) (flat_map f xs) (lower n (key x) (f x) o.0 (following-rise (key x) (f x) o.1)) (lower n (key x) (flat_map f xs) o.0 rest)
          (λ r q here there. elim (before-or-not r.0 q.0) [
            | inl lt ↦ lt
            | inr le ↦ absurd (
                let up = above (key x) (flat_map f xs) q rest there in
                let mine = filled (key x) (f x) r q.0 o.1 here up le in
                let other = some-times (flat_map f xs) q there in
                let both = times-append q.0 (f x) (flat_map f xs) in
                let one = few q.0 in
                omega (arith, mine, other, both, one))
          ])

      -- the parts in order give the rows that they give in another order
      pub in-order : (n : ℕ) (rows : List (ℕ × Y)) (xs ys : List X) → Rises n rows → rows ≡ flat_map f xs → IsPermutation xs ys → AreInOrder 0 ys → rows ≡ flat_map f ys
      in-order n rows xs ys rise is same ordered =
          let few : (m : ℕ) → times m (flat_map f ys) ≤ 1 = λ m.
          let one = once n rows rise m in
          let here = ap (times m) is in
          let a = times-flat m xs in
          let b = times-flat m ys in
          let moved = sum_by-IsPermutation (λ x. times m (f x)) xs ys same in
          omega (arith, one, here, a, b, moved) in
          same-rows n 0 rows (flat_map f ys) rise (ordered-rise 0 ys ordered few)
          (λ q there. moved-has xs ys same q (subst (λ rs. Has rs q) is there))
          (λ q there. subst (λ rs. Has rs q) (sym is) (moved-has ys xs (IsPermutation-sym xs ys same) q there))
