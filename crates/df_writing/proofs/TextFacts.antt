-- Arrays as they are written.
use Rattle.std.proofs.Common.{◌≡◌, ◌∙◌, ◌++◌, ℕ, List, [], ◌∷◌, ap, codes, flat_map, map, refl, sym}
use Rattle.std.proofs.lemmas.List.{append_assoc}
use Rattle.std.specs.List.{join_by}
use Rattle.toml.specs.Data.{Data}
use Rattle.toml.specs.View.{items_of}
use Rattle.df_writing.specs.Texts.{data_text, items_text, later_items}

-- the later items of an array, one by one
pub later_items-map :
    {A : Type 0} (f : A → Data) (xs : List A) → later_items (items_of (map f xs)) ≡ flat_map (λ x. codes ", " ++ data_text (f x)) xs ++ codes "]"
later_items-map f [] = refl
later_items-map f (x ∷ xs) =
    ap (λ (t : List ℕ). codes ", " ++ (data_text (f x) ++ t)) (later_items-map f xs)
    ∙ sym (append_assoc (codes ", " ++ data_text (f x)) (flat_map (λ x. codes ", " ++ data_text (f x)) xs) (codes "]")
    ∙ append_assoc (codes ", ") (data_text (f x)) (flat_map (λ x. codes ", " ++ data_text (f x)) xs ++ codes "]"))

later_items-join : (ds : List Data) → later_items (items_of ds) ≡ flat_map (λ d. codes ", " ++ data_text d) ds ++ codes "]"
later_items-join [] = refl
later_items-join (d ∷ ds) =
    ap (λ (t : List ℕ). codes ", " ++ (data_text d ++ t)) (later_items-join ds)
    ∙ sym (append_assoc (codes ", " ++ data_text d) (flat_map (λ d. codes ", " ++ data_text d) ds) (codes "]")
    ∙ append_assoc (codes ", ") (data_text d) (flat_map (λ d. codes ", " ++ data_text d) ds ++ codes "]"))

-- the items of an array, with commas between them
pub items_text-join : (ds : List Data) → items_text (items_of ds) ≡ join_by data_text (codes ", ") ds ++ codes "]"
items_text-join [] = refl
items_text-join (d ∷ ds) =
    ap (λ (t : List ℕ). data_text d ++ t) (later_items-join ds)
    ∙ sym (append_assoc (data_text d) (flat_map (λ d. codes ", " ++ data_text d) ds) (codes "]"))
