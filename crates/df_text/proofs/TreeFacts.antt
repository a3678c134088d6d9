-- Arrays and tables beside what they stand for.
use Rattle.std.proofs.Common.{◌≡◌, ℕ, Bool, ◌&&◌, List, [], ◌∷◌, map, String, Global, string_bytes, refl, ap}
use Rattle.std.specs.List.{list_all, list_any}
use Rattle.std.specs.Prelude.{◌||◌}
use Rattle.std.specs.Str.{bytes_eq}
use Rattle.std.specs.Map.{keys_of}
use Rattle.toml.specs.Data.{Data}
use Rattle.toml.specs.View.{items_of, members_view}
use Rattle.toml.specs.declared.value.Value.{Value}
use Rattle.df_text.specs.Tree.{keys_pass, list_of}

-- a test of each key is a test of the map's keys
pub keys_all : (p : List ℕ → Bool) (es : List (String Global × Value)) → keys_pass p (members_view es) ≡ list_all (λ (k : String Global). p (string_bytes k)) (keys_of es)
unfolding keys_pass
keys_all p [] = refl
keys_all p (e ∷ es) = ap (λ b. p (string_bytes e.0) && b) (keys_all p es)

-- the items of a list are that list
pub list_of-items : (ds : List Data) → list_of (items_of ds) ≡ ds
unfolding list_of
list_of-items [] = refl
list_of-items (d ∷ ds) = ap (λ xs. d ∷ xs) (list_of-items ds)

pub list_all-map : {A B : Type 0} (p : B → Bool) (f : A → B) (xs : List A) → list_all p (map f xs) ≡ list_all (λ x. p (f x)) xs
list_all-map p f [] = refl
list_all-map p f (x ∷ xs) = ap (λ b. p (f x) && b) (list_all-map p f xs)

-- a text is one of these texts
pub one_of_views : {A : Type 0} (text_of : A → List ℕ) (text : List ℕ) (xs : List A) →
    list_any (λ x. bytes_eq text (text_of x)) xs ≡ list_any (bytes_eq text) (map text_of xs)
one_of_views text_of text [] = refl
one_of_views text_of text (x ∷ xs) = ap (λ b. bytes_eq text (text_of x) || b) (one_of_views text_of text xs)
