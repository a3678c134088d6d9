-- Sums over what the seats know, where one of them steps.
use Rattle.std.proofs.Common.{◌≡◌, ◌≢◌, ◌⊎◌, ℕ, zero, suc, ◌+◌, ◌<◌, ◌≤◌, List, [], ◌∷◌, ◌++◌, set, refl, sym, ap, ⊎_elim, inl, inr, arith}
use Rattle.std.proofs.lemmas.Bool.Decides.{nat_tests}
use Rattle.std.proofs.lemmas.Grind.{common_steps}
use Rattle.std.proofs.lemmas.List.Sums.{sum_by-cons}
use Rattle.std.specs.List.{sum_by}
use mathlib.Core.Option.{some, some-ne-none, some-injective}
use lib.ListN.{get_elem?}
use Rattle.df_claims.specs.declared.rule.Draws.{Draws}
use Rattle.df_claims.specs.Lawful.{times}

pub sum_by-set : (f : Draws → ℕ) (xs : List Draws) (i : ℕ) (v w : Draws) → get_elem? xs i ≡ some v → sum_by f (set xs i w) + f v ≡ sum_by f xs + f w
sum_by-set f [] i v w e = absurd (some-ne-none v (sym e))
sum_by-set f (x ∷ xs) zero v w e = let h : f x ≡ f v = ap f (some-injective x v e) in omega (arith, h, sum_by-cons f x xs, sum_by-cons f w xs)
sum_by-set f (x ∷ xs) (suc i) v w e = let h = sum_by-set f xs i v w e in omega (arith, h, sum_by-cons f x xs, sum_by-cons f x (set xs i w))

pub sum_by-le : (f g : Draws → ℕ) (xs : List Draws) → ((i : ℕ) (v : Draws) → get_elem? xs i ≡ some v → f v ≤ g v) → sum_by f xs ≤ sum_by g xs
sum_by-le f g [] h = omega arith
sum_by-le f g (x ∷ xs) h = let a : f x ≤ g x = h 0 x refl in let b = sum_by-le f g xs (λ i v e. h (suc i) v e) in omega (arith, a, b, sum_by-cons f x xs, sum_by-cons g x xs)

pub times-push : (n : ℕ) (xs : List ℕ) → times n (xs ++ n ∷ []) ≡ times n xs + 1
times-push n [] = grind (arith, nat_tests, common_steps)
times-push n (x ∷ xs) = let h = times-push n xs in grind (arith, nat_tests, common_steps, h)

pub times-push_other : (m n : ℕ) (xs : List ℕ) → m ≢ n → times n (xs ++ m ∷ []) ≡ times n xs
times-push_other m n [] apart = grind (arith, nat_tests, common_steps)
times-push_other m n (x ∷ xs) apart = let h = times-push_other m n xs apart in grind (arith, nat_tests, common_steps, h)

pub same_or : (a b : ℕ) → (a ≡ b) ⊎ (a ≢ b)
same_or zero zero = inl refl
same_or zero (suc b) = inr (λ e. absurd (omega (arith, e)))
same_or (suc a) zero = inr (λ e. absurd (omega (arith, e)))
same_or (suc a) (suc b) = ⊎_elim (λ (e : a ≡ b). inl (ap suc e)) (λ (n : a ≢ b). inr (λ e. n (omega (arith, e)))) (same_or a b)

pub below_or : (a b : ℕ) → (a < b) ⊎ (b ≤ a)
below_or a zero = inr (omega arith)
below_or zero (suc b) = inl (omega arith)
below_or (suc a) (suc b) = ⊎_elim (λ (h : a < b). inl (omega (arith, h))) (λ (h : b ≤ a). inr (omega (arith, h))) (below_or a b)
