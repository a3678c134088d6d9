-- Batches that are joined, and that are entered one after the other.
use Rattle.std.proofs.Common.{◌≡◌, ◌+◌, ◌++◌, ◌<◌, ℕ, zero, suc, List, [], ◌∷◌, drop, get_or, length, set, subst, sym, arith}
use Rattle.std.specs.Prelude.{All, ◌⊎◌}

module _ {X : Type 0} (P : X → Type 0) where
  -- the first of those that are left
  pub first-left : (xs : List X) (i : ℕ) (x : X) → i < length xs → x ≡ get_or xs i x → All P (drop i xs) → P x
  first-left [] i x low is all = absurd (omega (arith, low))
  first-left (y ∷ xs) zero x low is all = subst P (sym is) (all zero x (omega arith))
  first-left (y ∷ xs) (suc i) x low is all = first-left xs i x (omega (arith, low)) is all

  rest-suc : (xs : List X) (i : ℕ) (y : X) → All P (drop i xs) → All P (drop (suc i) (set xs i y))
  rest-suc [] i y all = λ k d low. absurd (omega (arith, low))
  rest-suc (x ∷ xs) zero y all = λ k d low. all (suc k) d (omega (arith, low))
  rest-suc (x ∷ xs) (suc i) y all = rest-suc xs i y all

  -- those behind it, whatever stands in its place
  pub rest-left : (xs : List X) (i : ℕ) (y : X) → All P (drop i xs) → All P (drop (i + 1) (set xs i y))
  rest-left xs i y all = let e : i + 1 ≡ suc i = omega arith in rw e (rest-suc xs i y all)
