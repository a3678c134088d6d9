-- A reader of SQL finds what is in quotes.
use Rattle.std.proofs.Common.{◌≡◌, ◌∙◌, ◌++◌, ◌==◌, ℕ, Bool, true, false, List, [], ◌∷◌, Option, Some, ap, arith, flat_map, refl, sym}
use Rattle.std.proofs.lemmas.Bool.{eqb-true}
use Rattle.std.proofs.lemmas.List.{append_assoc}
use Rattle.df_sql.specs.Quotes.{IsReadBack, begins_with, behind, doubled, found, found_at_quote, found_within, quoted}

-- the end of a text, where no further quote follows
ends : (quote : ℕ) (rest : List ℕ) → begins_with quote rest ≡ false → found_at_quote quote rest ≡ Some ([], rest)
ends quote [] h = refl
ends quote (b ∷ bs) h = rw h refl

same : (quote : ℕ) → (quote == quote) ≡ true
same quote = grind (arith)

byte :
    (quote b : ℕ) (is : Bool) (tail : List ℕ) (found_in : Option (List ℕ × List ℕ)) → (b == quote) ≡ is → found_within quote tail ≡ found_in
    → found_within quote (doubled quote b ++ tail) ≡ behind b found_in
byte quote b true tail f is h =
    let e : b ≡ quote = eqb-true b quote is in
    rw (e, same quote, same quote, h) refl
byte quote b false tail f is h = rw (is, is, h) refl

within :
    (quote : ℕ) (text rest : List ℕ) → begins_with quote rest ≡ false
    → found_within quote (flat_map (doubled quote) text ++ quote ∷ rest) ≡ Some (text, rest)
within quote [] rest h = rw (same quote) (ends quote rest h)
within quote (b ∷ bs) rest h =
    rw (append_assoc (doubled quote b) (flat_map (doubled quote) bs) (quote ∷ rest))
    (byte quote b (b == quote) (flat_map (doubled quote) bs ++ quote ∷ rest) _ refl (within quote bs rest h))

-- a text between quotes is found
pub read_quoted : (quote : ℕ) (text : List ℕ) → IsReadBack quote text
unfolding IsReadBack quoted
read_quoted quote text rest h =
    rw (same quote, append_assoc (flat_map (doubled quote) text) (quote ∷ []) rest) (within quote text rest h)
