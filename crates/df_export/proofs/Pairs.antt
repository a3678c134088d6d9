-- A function of two lists that are gone over side by side.
use Rattle.std.proofs.Common.{◌≡◌, ◌+◌, ◌<◌, ℕ, zero, suc, List, [], ◌∷◌, length, drop, get_or, min, sym, ap, ◌∙◌, arith}
use Rattle.std.proofs.lemmas.List.{drop_more}

-- one step on
pub at_next :
    {X Y Z : Type 0} (of : List X → List Y → Z) (xs : List X) (ys : List Y) (n m : ℕ) (x : X) (y : Y) →
    n < length xs → n < length ys → ((d : X) → x ≡ get_or xs n d) → ((d : Y) → y ≡ get_or ys n d) → m ≡ n + 1 →
    of (drop n xs) (drop n ys) ≡ of (x ∷ drop m xs) (y ∷ drop m ys)
at_next of xs ys n m x y h k here beside after =
    let first : drop n xs ≡ x ∷ drop (n + 1) xs = drop_more xs n x h ∙ ap (λ v. v ∷ drop (n + 1) xs) (sym (here x)) in
    let second : drop n ys ≡ y ∷ drop (n + 1) ys = drop_more ys n y k ∙ ap (λ v. v ∷ drop (n + 1) ys) (sym (beside y)) in
    ap (λ l. of l (drop n ys)) first ∙ (ap (λ l. of (x ∷ drop (n + 1) xs) l) second ∙ ap (λ i. of (x ∷ drop i xs) (y ∷ drop i ys)) (sym after))

-- at the end of one of the two
pub at_end :
    {X Y Z : Type 0} (of : List X → List Y → Z) (last : Z) →
    ((ys : List Y) → of [] ys ≡ last) → ((x : X) (xs : List X) → of (x ∷ xs) [] ≡ last) →
    (xs : List X) (ys : List Y) (n : ℕ) → n ≡ min (length xs) (length ys) → of (drop n xs) (drop n ys) ≡ last
at_end of last one other [] ys zero h = one ys
at_end of last one other [] ys (suc n) h = one (drop (suc n) ys)
at_end of last one other (x ∷ xs) [] zero h = other x xs
at_end of last one other (x ∷ xs) [] (suc n) h = absurd (omega arith)
at_end of last one other (x ∷ xs) (y ∷ ys) zero h = absurd (omega arith)
at_end of last one other (x ∷ xs) (y ∷ ys) (suc n) h = at_end of last one other xs ys n (omega arith)
