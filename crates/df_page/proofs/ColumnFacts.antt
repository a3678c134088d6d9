-- Columns, one row and one column at a time.
use Rattle.std.proofs.Common.{◌≡◌, ◌+◌, ◌<◌, ◌≤◌, ℕ, List, [], ◌∷◌, ◌++◌, length, get_or, take, map, refl, arith}
use Rattle.std.specs.List.{enumerate_from}
use Rattle.std.proofs.lemmas.List.{take_more, take_all, map-append}
use Rattle.std.proofs.lemmas.List.FromFn.{length-enumerate_from, get_or-enumerate_from}

-- one place more
pub placed_more : {X Y : Type 0} (f : ℕ × X → Y) (xs : List X) (x : X) (i : ℕ) (old new : List Y) → i < length xs → x ≡ get_or xs i x
    → old ≡ map f (take i (enumerate_from 0 xs)) → new ≡ old ++ f (i, x) ∷ [] → new ≡ map f (take (i + 1) (enumerate_from 0 xs))
placed_more f xs x i old new h here inv n =
    let long : i < length (enumerate_from 0 xs) = omega (arith, length-enumerate_from 0 xs) in
    let z : 0 + i ≡ i = omega arith in
    rw (n, inv, take_more (enumerate_from 0 xs) i (0, x) long, get_or-enumerate_from 0 xs i (0, x) h, z, map-append, ← here) refl

pub placed_all : {X Y : Type 0} (f : ℕ × X → Y) (xs : List X) (i : ℕ) (new : List Y) → length xs ≤ i
    → new ≡ map f (take i (enumerate_from 0 xs)) → new ≡ map f (enumerate_from 0 xs)
placed_all f xs i new h inv =
    let n = take_all i (enumerate_from 0 xs) (omega (arith, length-enumerate_from 0 xs)) in
    rw n at inv
