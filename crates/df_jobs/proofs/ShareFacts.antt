-- Desks that are split, moved and given back: whatever adds up over desks stays.
use Rattle.std.proofs.Common.{◌≡◌, ℕ, ◌+◌, ◌-◌, ◌/◌, ◌<◌, ◌∙◌, List, [], ◌∷◌, ◌++◌, length, get_or, set, refl, ap, sym, arith, sum_by}
use Rattle.std.specs.Prelude.{flat_map}
use Rattle.std.proofs.lemmas.List.Sums.{sum_by-append, sum_by-cons, sum_by-set, sum_by_push}
use Rattle.df_state.specs.Desks.{AddsUp, DeskParts, HaveSameSums, IsSplit, joined_desk}

desk : ℕ → ℕ → ℕ → ℕ → DeskParts
desk f a d p = record { frame = f; accepted = a; deleted = d; parts = p }

same-desk : (f a d p a' d' p' : ℕ) → a' ≡ a → d' ≡ d → p' ≡ p → desk f a' d' p' ≡ desk f a d p
same-desk f a d p a' d' p' h k l = ap (λ x. desk f x d' p') h ∙ (ap (λ x. desk f a x p') k ∙ ap (λ x. desk f a d x) l)

halves : (n : ℕ) → (n - n / 2) + n / 2 ≡ n
halves n = omega arith

-- the two desks of a split are together the one that was split
rejoined : (old kept given : DeskParts) → IsSplit old kept given → joined_desk kept given ≡ old
unfolding desk
rejoined old kept given is =
    ap (λ (d : DeskParts). joined_desk d given) is.kept_half
    ∙ (ap (λ (d : DeskParts). joined_desk (record old { parts = old.parts - old.parts / 2 }) d) is.given_half
    ∙ same-desk old.frame old.accepted old.deleted old.parts (old.accepted + 0) (old.deleted + 0) ((old.parts - old.parts / 2) + old.parts / 2) (omega arith) (omega arith) (halves old.parts))

split-sum : (old kept given : DeskParts) → IsSplit old kept given → (h : DeskParts → ℕ) → AddsUp h → h kept + h given ≡ h old
split-sum old kept given is h adds =
    let frames : kept.frame ≡ given.frame = ap (λ (d : DeskParts). d.frame) is.kept_half ∙ sym (ap (λ (d : DeskParts). d.frame) is.given_half) in
    sym (adds kept given frames) ∙ ap h (rejoined old kept given is)

-- a desk that is split, with what is split off behind the others
pub one-split :
    (old kept given : DeskParts) (before after : List DeskParts) → IsSplit old kept given → after ≡ before ++ given ∷ [] → HaveSameSums (old ∷ before) (kept ∷ after)
one-split old kept given before after is pushed = record {
  same = λ h adds.
      let one = split-sum old kept given is h adds in
      let a = sum_by-cons h kept after in
      let b = ap (sum_by h) pushed in
      let c = sum_by_push h before given in
      let d = sum_by-cons h old before in
      omega (arith, one, a, b, c, d);
}

pub sums-through : (a b c : List DeskParts) → HaveSameSums a b → HaveSameSums b c → HaveSameSums a c
sums-through a b c p q = record { same = λ h adds. q.same h adds ∙ p.same h adds }

-- one of the desks is split, and the others change with it
pub split-at :
    (desks others after : List DeskParts) (at : ℕ) (d kept : DeskParts) → at < length desks → d ≡ get_or desks at d → HaveSameSums (d ∷ others) (kept ∷ after) →
    HaveSameSums (desks ++ others) (set desks at kept ++ after)
split-at desks others after at d kept low is same = record {
  same = λ h adds.
      let one = same.same h adds in
      let a = sum_by-cons h d others in
      let b = sum_by-cons h kept after in
      let e = sum_by-append h desks others in
      let f = sum_by-append h (set desks at kept) after in
      let g = sum_by-set h desks at kept d low in
      let i = ap h is in
      omega (arith, one, a, b, e, f, g, i);
}

sum-flat : {X : Type 0} (f : X → List DeskParts) (h : DeskParts → ℕ) (xs : List X) → sum_by h (flat_map f xs) ≡ sum_by (λ x. sum_by h (f x)) xs
sum-flat f h [] = refl
sum-flat f h (x ∷ xs) =
    sum_by-append h (f x) (flat_map f xs)
    ∙ (ap (λ n. sum_by h (f x) + n) (sum-flat f h xs)
    ∙ sym (sum_by-cons (λ x. sum_by h (f x)) x xs))

-- one holder of desks splits them for another one behind it
pub split-between :
    {X : Type 0} (f : X → List DeskParts) (whole givers takers : List X) (from : ℕ) (d e giver taker : X) → from < length givers → 0 < length takers →
    whole ≡ givers ++ takers → HaveSameSums (f (get_or givers from d) ++ f (get_or takers 0 e)) (f giver ++ f taker) →
    HaveSameSums (flat_map f whole) (flat_map f (set givers from giver ++ set takers 0 taker))
split-between {X = X} f whole givers takers from d e giver taker low some is same = record {
  same = λ h adds.
      let s : X → ℕ = λ x. sum_by h (f x) in
      let one = same.same h adds in
      let a = sum_by-append h (f (get_or givers from d)) (f (get_or takers 0 e)) in
      let b = sum_by-append h (f giver) (f taker) in
      let c = ap (λ xs. sum_by h (flat_map f xs)) is in
      let c' = sum-flat f h (givers ++ takers) in
      let g = sum-flat f h (set givers from giver ++ set takers 0 taker) in
      let i = sum_by-append s givers takers in
      let j = sum_by-append s (set givers from giver) (set takers 0 taker) in
      let k = sum_by-set s givers from giver d low in
      let l = sum_by-set s takers 0 taker e some in
      omega (arith, one, a, b, c, c', g, i, j, k, l);
}
