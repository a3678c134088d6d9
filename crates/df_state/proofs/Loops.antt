-- The step of a loop over the elements of a list that pushes what one of them gives.
use Rattle.std.proofs.Common.{◌≡◌, ℕ, ◌+◌, ◌<◌, ◌∙◌, List, [], ◌∷◌, ◌++◌, map, take, length, get_or, ap, sym}
use Rattle.std.proofs.lemmas.List.{map_more}

pub mapped-more :
    {X Y : Type 0} (xs : List X) (i : ℕ) (x : X) (f : X → Y) (out new : List Y) (y : Y) →
    i < length xs → x ≡ get_or xs i x → out ≡ map f (take i xs) → new ≡ out ++ y ∷ [] → y ≡ f x → new ≡ map f (take (i + 1) xs)
mapped-more xs i x f out new y within at before pushed is =
    pushed
    ∙ (ap (λ ys. ys ++ y ∷ []) before
    ∙ (ap (λ z. map f (take i xs) ++ z ∷ []) (is ∙ ap f at)
    ∙ sym (map_more f xs i x within)))
