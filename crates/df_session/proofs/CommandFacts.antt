-- The words of commands.
use Rattle.std.proofs.Common.{◌≡◌, ◌∙◌, ◌<◌, ◌≤◌, ◌+◌, ◌-◌, ◌++◌, ℕ, List, [], ◌∷◌, Bor, ap, map, length, take, drop, refl, sym, slice_index_or, arith}
use Rattle.std.specs.List.{AllZip}
use Rattle.std.proofs.lemmas.Grind.{common_steps}
use Rattle.std.proofs.lemmas.List.{take_all}
use Rattle.std.proofs.lemmas.Slice.Zip.{all_zipped_more}

three :
    (d : Bor (List ℕ)) (xs : List (Bor (List ℕ))) → length xs ≡ 3 →
    map (λ w. w.now) xs ≡ (slice_index_or xs 0 d).now ∷ (slice_index_or xs 1 d).now ∷ (slice_index_or xs 2 d).now ∷ []
three d [] h = absurd (omega arith)
three d (a ∷ []) h = absurd (omega arith)
three d (a ∷ b ∷ []) h = absurd (omega arith)
three d (a ∷ b ∷ e ∷ []) h = refl
three d (a ∷ b ∷ e ∷ x ∷ xs) h = absurd (omega arith)

-- three words behind a name
pub three-words :
    {name : List ℕ} (d : Bor (List ℕ)) (xs : List (Bor (List ℕ))) → length xs ≡ 3 →
    name ∷ map (λ w. w.now) xs ≡ name ∷ (slice_index_or xs 0 d).now ∷ (slice_index_or xs 1 d).now ∷ (slice_index_or xs 2 d).now ∷ []
three-words {name} d xs h = ap (λ ws. name ∷ ws) (three d xs h)

three-up :
    (d : Bor (List ℕ)) (xs : List (Bor (List ℕ))) → 3 ≤ length xs →
    map (λ w. w.now) xs ≡ (slice_index_or xs 0 d).now ∷ (slice_index_or xs 1 d).now ∷ (slice_index_or xs 2 d).now ∷ map (λ w. w.now) (drop 3 xs)
three-up d [] h = absurd (omega arith)
three-up d (a ∷ []) h = absurd (omega arith)
three-up d (a ∷ b ∷ []) h = absurd (omega arith)
three-up d (a ∷ b ∷ e ∷ xs) h = refl

-- three words behind a name, and others
pub three-words-up :
    {name : List ℕ} (d : Bor (List ℕ)) (xs : List (Bor (List ℕ))) → 3 ≤ length xs →
    name ∷ map (λ w. w.now) xs
    ≡ name ∷ (slice_index_or xs 0 d).now ∷ (slice_index_or xs 1 d).now ∷ (slice_index_or xs 2 d).now ∷ map (λ w. w.now) (drop 3 xs)
three-words-up {name} d xs h = ap (λ ws. name ∷ ws) (three-up d xs h)

-- one word more of a list, and what it stands for
pub numbers-more :
    (R : List ℕ → ℕ → Type 0) (d : Bor (List ℕ)) (xs : List (Bor (List ℕ))) (i : ℕ) (ys : List ℕ) (y : ℕ) → i < length xs →
    AllZip R (map (λ w. w.now) (take i xs)) ys → R (slice_index_or xs i d).now y →
    AllZip R (map (λ w. w.now) (take (i + 1) xs)) (ys ++ y ∷ [])
numbers-more R d xs i ys y h zipped one =
    let taken : map (λ w. w.now) (take (i + 1) xs) ≡ map (λ w. w.now) (take i xs) ++ (slice_index_or xs i d).now ∷ [] = grind (arith, common_steps) in
    rw taken (all_zipped_more R (map (λ w. w.now) (take i xs)) ys (slice_index_or xs i d).now y zipped one)

-- the first word of a list and the others
pub first-word :
    (d : Bor (List ℕ)) (xs : List (Bor (List ℕ))) → 1 ≤ length xs →
    (slice_index_or xs 0 d).now ∷ map (λ w. w.now) (take (length xs - 1) (drop 1 xs)) ≡ map (λ w. w.now) xs
first-word d [] h = absurd (omega arith)
first-word d (x ∷ xs) h =
    ap (λ (ws : List (Bor (List ℕ))). x.now ∷ map (λ w. w.now) ws) (take_all (length (x ∷ xs) - 1) xs (omega arith))

-- the first word of a list, behind a name, and the others
pub first-word-and-rest :
    {name : List ℕ} (d : Bor (List ℕ)) (xs : List (Bor (List ℕ))) (rest : List (List ℕ)) → 1 ≤ length xs →
    map (λ w. w.now) (take (length xs - 1) (drop 1 xs)) ≡ rest → name ∷ map (λ w. w.now) xs ≡ name ∷ (slice_index_or xs 0 d).now ∷ rest
first-word-and-rest {name} d xs rest h same =
    ap (λ (ws : List (List ℕ)). name ∷ ws) (sym (first-word d xs h) ∙ ap (λ (ws : List (List ℕ)). (slice_index_or xs 0 d).now ∷ ws) same)
