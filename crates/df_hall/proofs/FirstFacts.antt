-- Desks that are each the first of their frame from a place on, where the one before that place is joined to an earlier one.
use Rattle.std.proofs.Common.{◌≡◌, ◌≢◌, ℕ, zero, suc, ◌+◌, ◌<◌, ◌≤◌, ◌∙◌, ◌⊎◌, inl, inr, List, [], ◌∷◌, ◌++◌, length, take, drop, get_or, set, refl, ap, sym, arith}
use Rattle.std.specs.List.{SameBelow, ShiftedDown}
use Rattle.std.proofs.lemmas.Grind.{get_or-set_at}
use Rattle.std.proofs.lemmas.List.{get_or-set_other, length-set}
use Rattle.df_state.specs.Desks.{DeskParts}
use Rattle.df_state.proofs.ListFacts.{before-or-not}
use Rattle.df_hall.specs.Closing.{AreFirst}

same-or-not : (k i : ℕ) → (k ≡ i) ⊎ (k ≢ i)
same-or-not zero zero = inl refl
same-or-not (suc k) zero = inr (λ e. omega (arith, e))
same-or-not zero (suc i) = inr (λ e. omega (arith, e))
same-or-not (suc k) (suc i) = elim (same-or-not k i) [
  | inl e ↦ inl (omega (arith, e))
  | inr n ↦ inr (λ e. n (omega (arith, e)))
]

length-without : {X : Type 0} (xs : List X) (i : ℕ) → i < length xs → length (take i xs ++ drop (i + 1) xs) + 1 ≡ length xs
length-without [] i h = absurd (omega (arith, h))
length-without (x ∷ xs) zero h = omega arith
length-without (x ∷ xs) (suc i) h =
    let e : suc i + 1 ≡ suc (i + 1) = omega arith in
    let here : length (take (suc i) (x ∷ xs) ++ drop (suc i + 1) (x ∷ xs)) ≡ suc (length (take i xs ++ drop (i + 1) xs)) =
    ap (λ (k : ℕ). length (take (suc i) (x ∷ xs) ++ drop k (x ∷ xs))) e in
    let rest = length-without xs i (omega (arith, h)) in
    omega (arith, here, rest)

without : {X : Type 0} (xs ys : List X) (at : ℕ) → at < length xs → ys ≡ take at xs ++ drop (at + 1) xs → length ys + 1 ≡ length xs
without xs ys at h is = let e = ap length is in let n = length-without xs at h in omega (arith, e, n)

-- the frame of a desk is that of one that was there, at this place or one behind it
frame-there :
    (xs ys : List DeskParts) (at to : ℕ) (y : DeskParts) → to < at → at < length xs → ys ≡ take at xs ++ drop (at + 1) xs → SameBelow xs ys at → ShiftedDown xs ys at →
    ((d : DeskParts) → y.frame ≡ (get_or xs to d).frame) → (b : ℕ) →
    (k : ℕ) × (k ≤ b + 1) × ((d : DeskParts) → (get_or (set ys to y) b d).frame ≡ (get_or xs k d).frame)
frame-there xs ys at to y low h is below down same b = elim (same-or-not b to) [
  | inl e ↦ (to, omega (arith, e), λ d. ap (λ (z : DeskParts). z.frame) (get_or-set_at ys to b y d e (let len = without xs ys at h is in omega (arith, low, h, len))) ∙ same d)
  | inr n ↦ elim (before-or-not b at) [
    | inl l ↦ (b, omega arith, λ d. ap (λ (z : DeskParts). z.frame) (get_or-set_other ys to b y d n ∙ below b d l))
    | inr l ↦ (b + 1, omega arith, λ d. ap (λ (z : DeskParts). z.frame) (get_or-set_other ys to b y d n ∙ down b d l))
  ]
]

pub joined-first :
    (xs ys : List DeskParts) (at to : ℕ) (y : DeskParts) → to < at → at < length xs → ys ≡ take at xs ++ drop (at + 1) xs → SameBelow xs ys at → ShiftedDown xs ys at →
    ((d : DeskParts) → y.frame ≡ (get_or xs to d).frame) → AreFirst xs (at + 1) → AreFirst (set ys to y) at
joined-first xs ys at to y low h taken below down same first = λ a after inside b before d e is.
    let n = length-set ys to y in
    let len = without xs ys at h taken in
    let there = frame-there xs ys at to y low h taken below down same b in
    let k = there.0 in
    let low_k = there.1 in
    let apart : a ≢ to = λ s. omega (arith, s, after, low) in
    let mine : (get_or (set ys to y) a e).frame ≡ (get_or xs (a + 1) e).frame =
    ap (λ (z : DeskParts). z.frame) (get_or-set_other ys to a y e apart ∙ down a e after) in
    first (a + 1) (omega (arith, after)) (omega (arith, inside, n, len)) k (omega (arith, low_k, before)) d e (sym (there.2 d) ∙ (is ∙ mine))
