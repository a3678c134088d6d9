-- What a plan that is ready gives to its commits.
use Rattle.std.proofs.Common.{◌≡◌, ◌≤◌, ◌<◌, ◌+◌, ◌-◌, ℕ, zero, suc, List, [], ◌∷◌, ◌++◌, length, map, refl, ap, ◌∙◌, arith, length-append, ◌⊎◌, inl, inr}
use Rattle.std.specs.Prelude.{get_or}
use Rattle.std.proofs.lemmas.List.{length-map}
use Rattle.df_tree.specs.Leaves.{items, one_more, room_at, rooms, same, total, Kept, Ready, Reserved}
use Rattle.df_tree.proofs.LeafLemmas.{get_or-past, get_or-within}

pub total_at : (plan : ℕ → ℕ) (i n : ℕ) → i < n → plan i ≤ total plan n
total_at plan i zero h = absurd (omega (arith, h))
total_at plan zero (suc n) h = omega arith
total_at plan (suc i) (suc n) h = let more = total_at (λ i. plan (suc i)) i n (omega (arith, h)) in omega (arith, more)

total_nothing : (n : ℕ) → total (λ i. 0) n ≡ 0
total_nothing zero = refl
total_nothing (suc n) = let more = total_nothing n in omega (arith, more)

cases : (i n : ℕ) → (i < n) ⊎ (n ≤ i)
cases zero zero = inr (omega arith)
cases zero (suc n) = inl (omega arith)
cases (suc i) zero = inr (omega arith)
cases (suc i) (suc n) = elim (cases i n) [ inl l ↦ inl (omega (arith, l)) | inr g ↦ inr (omega (arith, g)) ]

room-same : {X : Type 0} (xs : List X) (s i : ℕ) → i < length xs → get_or (map (λ x. s) xs) i 0 ≡ s
room-same [] s i h = absurd (omega (arith, h))
room-same (x ∷ xs) s zero h = refl
room-same (x ∷ xs) s (suc i) h = room-same xs s i (omega (arith, h))

same_self : (i : ℕ) → same i i ≡ 1
same_self zero = refl
same_self (suc i) = same_self i

module _ {I : Type 0} where
  -- at first nothing is planned
  pub ready_nothing : (rs : List (List I × ℕ)) → Ready {I = I} (λ i. 0) rs
  ready_nothing [] = tt
  ready_nothing (r ∷ rs) = let n = total_nothing (length r.0) in (omega (arith, n), ready_nothing rs)

  -- what is planned beside an item has room
  pub ready_room : (plan : ℕ → ℕ) (rs : List (List I × ℕ)) (i : ℕ) → i < length (items {I = I} rs) → 0 < plan i → Ready {I = I} plan rs → 1 < room_at {I = I} rs i
  ready_room plan [] i h o r = absurd (omega (arith, h))
  ready_room plan (x ∷ rs) i h o r = elim (cases i (length x.0)) [
    | inl l ↦
        let n = length-map x.0 (λ y. x.1) in
        let e = get_or-within (map (λ y. x.1) x.0) (rooms {I = I} rs) i 0 (omega (arith, n, l)) in
        let f = room-same x.0 x.1 i l in
        let t = total_at plan i (length x.0) l in
        let here = r.0 in
        omega (arith, e, f, t, here, o)
    | inr g ↦
        let n = length-map x.0 (λ y. x.1) in
        let all = length-append x.0 (items {I = I} rs) in
        let k : i ≡ length x.0 + (i - length x.0) = omega (arith, g) in
        let j : i ≡ length (map (λ y. x.1) x.0) + (i - length x.0) = omega (arith, g, n) in
        let e = ap (λ m. get_or (map (λ y. x.1) x.0 ++ rooms {I = I} rs) m 0) j in
        let f = get_or-past (map (λ y. x.1) x.0) (rooms {I = I} rs) (i - length x.0) 0 in
        let p = ap plan k in
        let more = ready_room (λ i. plan (length x.0 + i)) rs (i - length x.0) (omega (arith, h, all, g)) (omega (arith, p, o)) r.1 in
        omega (arith, e, f, more)
  ]

  -- what was reserved beside an item is room there
  pub reserved_room : (old new : List (List I × ℕ)) (index : ℕ) → index < length (items {I = I} old) → Kept {I = I} old new → Reserved {I = I} old new index → 1 < room_at {I = I} new index
  reserved_room old new index h k r =
      let n = ap length k.items in
      let one = same_self index in
      ready_room (one_more (λ i. 0) index) new index (omega (arith, n, h)) (omega (arith, one)) (r.ready (λ i. 0) (ready_nothing old))
