-- The first of a list that a test finds.
use Rattle.std.proofs.Common.{◌≡◌, ◌+◌, ◌<◌, ℕ, zero, suc, Bool, true, false, List, [], ◌∷◌, ◌++◌, ap, arith, cond, get_or, length, subst, sym, take}
use Rattle.std.specs.Prelude.{Some, None, find}
use Rattle.std.proofs.lemmas.List.{take_more}

-- none of these, nor the one behind them
none-behind :
    {X : Type 0} (f : X → Bool) (ys : List X) (x : X) → find f ys ≡ None → f x ≡ false → find f (ys ++ x ∷ []) ≡ None
none-behind f [] x n h = ap (λ b. cond b (Some x) None) h
none-behind f (y ∷ ys) x n h =
    elim (f y) as (λ b. cond b (Some y) (find f ys) ≡ None → cond b (Some y) (find f (ys ++ x ∷ [])) ≡ None) [
      | true ↦ λ m. absurd (cc (m))
      | false ↦ λ m. none-behind f ys x m h
    ] n

pub none-more :
    {X : Type 0} (f : X → Bool) (xs : List X) (i : ℕ) (d : X) → i < length xs → find f (take i xs) ≡ None → f (get_or xs i d) ≡ false →
    find f (take (i + 1) xs) ≡ None
none-more f xs i d lt n h =
    subst (λ ys. find f ys ≡ None) (sym (take_more xs i d lt)) (none-behind f (take i xs) (get_or xs i d) n h)

-- none before this one
pub first-found :
    {X : Type 0} (f : X → Bool) (xs : List X) (i : ℕ) (d : X) → i < length xs → find f (take i xs) ≡ None → f (get_or xs i d) ≡ true →
    Some (get_or xs i d) ≡ find f xs
first-found f [] i d lt n h = absurd (omega (arith, lt))
first-found f (x ∷ xs) zero d lt n h = sym (ap (λ b. cond b (Some x) (find f xs)) h)
first-found f (x ∷ xs) (suc i) d lt n h =
    elim (f x) as (λ b. cond b (Some x) (find f (take i xs)) ≡ None → Some (get_or xs i d) ≡ cond b (Some x) (find f xs)) [
      | true ↦ λ m. absurd (cc (m))
      | false ↦ λ m. first-found f xs i d (omega (arith, lt)) m h
    ] n
