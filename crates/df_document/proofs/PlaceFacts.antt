-- Lists that grow place by place.
use Rattle.std.proofs.Common.{◌≡◌, ℕ, ◌<◌, zero, suc, List, [], ◌∷◌, ◌++◌, length, get_or, take, drop, ap, arith}
use Rattle.std.specs.Prelude.{Some, slice_get}
use Rattle.df_document.specs.Refused.{paired}

-- one more item, by what stands at its place
pub take_more_at : {X : Type 0} (xs : List X) (n : ℕ) (x : X) → slice_get xs n ≡ Some x → take (suc n) xs ≡ take n xs ++ x ∷ []
take_more_at [] n x h = cc
take_more_at (y ∷ ys) zero x h =
    let same : y ≡ x = cc in
    ap (λ z. z ∷ []) same
take_more_at (y ∷ ys) (suc n) x h = ap (λ zs. y ∷ zs) (take_more_at ys n x h)

-- the pairs from a place on begin with the pair there
pub paired-drop :
    {X Y : Type 0} (xs : List X) (ys : List Y) (i : ℕ) (x : X) (y : Y) → i < length xs → i < length ys →
    x ≡ get_or xs i x → y ≡ get_or ys i y → paired (drop i xs) (drop i ys) ≡ (x, y) ∷ paired (drop (suc i) xs) (drop (suc i) ys)
paired-drop [] ys i x y h k is is' = absurd (omega arith)
paired-drop (a ∷ xs) [] i x y h k is is' = absurd (omega arith)
paired-drop (a ∷ xs) (b ∷ ys) zero x y h k is is' = cc
paired-drop (a ∷ xs) (b ∷ ys) (suc i) x y h k is is' = paired-drop xs ys i x y (omega arith) (omega arith) is is'
