-- Lists of which all pass a test.
use Rattle.std.proofs.Common.{◌≡◌, ℕ, ◌+◌, ◌≤◌, Bool, true, false, suc, cond, List, [], ◌∷◌, map, length, refl, ap, arith}
use Rattle.std.specs.Prelude.{not, ◌&&◌, nat_lt, position, Some, None}
use Rattle.std.specs.List.{list_all, position_or_len}
use Rattle.std.proofs.lemmas.Bool.{ltb-false}

-- all of the images pass where what they are of does
pub all-map : {S T : Type 0} (p : T → Bool) (f : S → T) (xs : List S) → list_all p (map f xs) ≡ list_all (λ x. p (f x)) xs
all-map p f [] = refl
all-map p f (x ∷ xs) = ap (λ b. p (f x) && b) (all-map p f xs)

passes-all : (b : Bool) (n k : ℕ) (rest : Bool) → suc n ≤ cond (not (not b)) (1 + k) 0 → (n ≤ k → rest ≡ true) → (b && rest) ≡ true
passes-all true n k rest h later = later (omega (arith, h))
passes-all false n k rest h later = absurd (omega (arith, h))

-- all pass where no place of one that does not was found
pub all-pass : {T : Type 0} (q : T → Bool) (xs : List T) → length xs ≤ position_or_len (λ x. not (q x)) xs → list_all q xs ≡ true
all-pass q [] h = refl
all-pass q (x ∷ xs) h = passes-all (q x) (length xs) (position_or_len (λ x. not (q x)) xs) (list_all q xs) h (all-pass q xs)

no-place : (n k : ℕ) (b : Bool) → nat_lt k n ≡ b → cond b (Some k) None ≡ None → n ≤ k
no-place n k true e h = cc
no-place n k false e h = ltb-false k n e

pub position-none : {T : Type 0} (q : T → Bool) (xs : List T) → position (λ x. not (q x)) xs ≡ None → list_all q xs ≡ true
position-none q xs h =
    let k = position_or_len (λ x. not (q x)) xs in
    all-pass q xs (no-place (length xs) k (nat_lt k (length xs)) refl h)
