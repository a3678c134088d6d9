-- The first items of a list, those behind them, and the items between two indexes.
use Rattle.std.proofs.Common.{◌≡◌, ℕ, zero, suc, ◌+◌, ◌<◌, ◌≤◌, List, [], ◌∷◌, ◌++◌, length, map, take, drop, get_or, refl, sym, ap, ◌∙◌, append_assoc, arith}
use Rattle.std.proofs.Math.Seq.{drop-nil, take-nil}

pub take_front : {X : Type 0} (xs ys : List X) (n : ℕ) → n ≡ length xs → take n (xs ++ ys) ≡ xs
take_front [] ys n e = ap (λ m. take m ys) e
take_front (x ∷ xs) ys zero e = absurd (omega arith)
take_front (x ∷ xs) ys (suc n) e = ap (λ r. x ∷ r) (take_front xs ys n (omega arith))

pub drop_front : {X : Type 0} (xs ys : List X) (n k : ℕ) → n ≡ length xs + k → drop n (xs ++ ys) ≡ drop k ys
drop_front [] ys n k e = let z : n ≡ k = omega (arith, e) in ap (λ m. drop m ys) z
drop_front (x ∷ xs) ys zero k e = absurd (omega arith)
drop_front (x ∷ xs) ys (suc n) k e = drop_front xs ys n k (omega (arith, e))

pub take_longer : {X : Type 0} (xs : List X) (low mid high : ℕ) → low ≤ mid → mid ≤ high → drop low (take mid xs) ++ drop mid (take high xs) ≡ drop low (take high xs)
take_longer xs low zero high p q = let e : low ≡ 0 = omega arith in ap (λ n. drop n (take 0 xs) ++ take high xs) e ∙ ap (λ n. drop n (take high xs)) (sym e)
take_longer [] low (suc mid) high p q = ap (λ xs. xs ++ drop (suc mid) (take high [])) (drop-nil low) ∙ ap (drop (suc mid)) (take-nil high) ∙ sym (ap (drop low) (take-nil high) ∙ drop-nil low)
take_longer (x ∷ xs) low (suc mid) zero p q = absurd (omega arith)
take_longer (x ∷ xs) zero (suc mid) (suc high) p q = ap (λ r. x ∷ r) (take_longer xs zero mid high (omega arith) (omega arith))
take_longer (x ∷ xs) (suc low) (suc mid) (suc high) p q = take_longer xs low mid high (omega arith) (omega arith)

pub three_parts : {X : Type 0} (front xs : List X) (low from to high : ℕ) → low ≤ from → from ≤ to → to ≤ high
    → ((front ++ drop low (take from xs)) ++ drop from (take to xs)) ++ drop to (take high xs) ≡ front ++ drop low (take high xs)
three_parts front xs low from to high p q r =
    ap (λ ys. ys ++ drop to (take high xs)) (append_assoc front (drop low (take from xs)) (drop from (take to xs)) ∙ ap (λ ys. front ++ ys) (take_longer xs low from to p q))
    ∙ append_assoc front (drop low (take to xs)) (drop to (take high xs)) ∙ ap (λ ys. front ++ ys) (take_longer xs low to high (omega arith) r)

pub all_taken : {X : Type 0} (xs : List X) (n : ℕ) → length xs ≤ n → take n xs ≡ xs
all_taken [] n h = take-nil n
all_taken (x ∷ xs) zero h = absurd (omega arith)
all_taken (x ∷ xs) (suc n) h = ap (λ r. x ∷ r) (all_taken xs n (omega arith))

-- the first items put behind others, and then the rest
pub put_in_two : {X : Type 0} (front xs first made rest : List X) (n m : ℕ) → n ≤ m → length xs ≤ m → first ≡ drop 0 (take n xs) → made ≡ front ++ first → rest ≡ drop n (take m xs) → made ++ rest ≡ front ++ xs
put_in_two front xs first made rest n m le all one two three =
    ap (λ ys. ys ++ rest) (two ∙ ap (λ ys. front ++ ys) one) ∙ append_assoc front (drop 0 (take n xs)) rest
    ∙ ap (λ ys. front ++ ys) (ap (λ ys. drop 0 (take n xs) ++ ys) three ∙ take_longer xs 0 n m (omega arith) le ∙ all_taken xs m all)

pub none_between : {X : Type 0} (xs : List X) (n : ℕ) → drop n (take n xs) ≡ []
none_between xs zero = refl
none_between [] (suc n) = refl
none_between (x ∷ xs) (suc n) = none_between xs n

pub one_between : {X : Type 0} (xs : List X) (n : ℕ) (d : X) → n < length xs → drop n (take (n + 1) xs) ≡ get_or xs n d ∷ []
one_between [] n d lt = absurd (omega arith)
one_between (x ∷ xs) zero d lt = refl
one_between (x ∷ xs) (suc n) d lt =
    let e : suc n + 1 ≡ suc (n + 1) = omega arith in
    ap (λ k. drop (suc n) (take k (x ∷ xs))) e ∙ one_between xs n d (omega arith)

pub take_taken : {X : Type 0} (m n : ℕ) (xs : List X) → m ≤ n → take m (take n xs) ≡ take m xs
take_taken zero n xs le = refl
take_taken (suc m) zero xs le = absurd (omega arith)
take_taken (suc m) (suc n) [] le = refl
take_taken (suc m) (suc n) (x ∷ xs) le = ap (λ r. x ∷ r) (take_taken m n xs (omega arith))

pub map_push : {X Y : Type 0} (f : X → Y) (xs : List X) (x : X) → map f (xs ++ x ∷ []) ≡ map f xs ++ f x ∷ []
map_push f [] x = refl
map_push f (y ∷ xs) x = ap (λ r. f y ∷ r) (map_push f xs x)

-- one item more of those between two indexes
pub part_more : {X : Type 0} (xs : List X) (low at : ℕ) (x : X) → low ≤ at → at < length xs → x ≡ get_or xs at x → drop low (take (at + 1) xs) ≡ drop low (take at xs) ++ x ∷ []
part_more xs low at x le lt is =
    sym (take_longer xs low at (at + 1) le (omega arith)) ∙ ap (λ ys. drop low (take at xs) ++ ys) (one_between xs at x lt ∙ ap (λ y. y ∷ []) (sym is))
