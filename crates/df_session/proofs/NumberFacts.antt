-- The numbers behind those of rows, and a change of a list past its end.
use Rattle.std.proofs.Common.{◌≡◌, ◌≤◌, ◌+◌, ℕ, zero, suc, List, [], ◌∷◌, ap, arith, length, refl}
use Rattle.std.specs.List.{range_with_len}
use Rattle.df_state.specs.Changes.{change_at}
use Rattle.df_session.specs.Numbers.{number_behind}

-- the numbers of rows from one on end behind the last of them
behind-range : (first n : ℕ) → number_behind (range_with_len first (suc n)) ≡ first + suc n
behind-range first zero = omega arith
behind-range first (suc n) = let k = behind-range (first + 1) n in omega (arith, k)

pub behind-rows : (first n : ℕ) → (n ≡ 0 → ⊥) → number_behind (range_with_len first n) ≡ first + n
behind-rows first zero some = absurd (some refl)
behind-rows first (suc n) some = behind-range first n

-- a change past the end of a list changes nothing
pub changed-past : (h : ℕ → ℕ) (i : ℕ) (ns : List ℕ) → length ns ≤ i → change_at i h ns ≡ ns
changed-past h i [] le = refl
changed-past h zero (n ∷ ns) le = absurd (omega (arith, le))
changed-past h (suc i) (n ∷ ns) le = ap (λ ms. n ∷ ms) (changed-past h i ns (omega (arith, le)))
