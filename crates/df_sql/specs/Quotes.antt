-- Names and texts of SQL in quotes, and what a reader of SQL finds there: a quote that stands twice is one, and the first that
-- does not ends the text.
use Rattle.std.specs.Prelude.{◌≡◌, ◌==◌, ◌++◌, ℕ, Bool, true, false, List, [], ◌∷◌, Option, Some, None, flat_map, not, if◌then◌else◌}

-- a byte between quotes: a quote twice
abbrev pub doubled : ℕ → ℕ → List ℕ
doubled quote b = if b == quote then quote ∷ quote ∷ [] else b ∷ []

-- a text between quotes
unfoldable pub quoted : ℕ → List ℕ → List ℕ
quoted quote text = quote ∷ (flat_map (doubled quote) text ++ quote ∷ [])

-- the double quote, of names
abbrev pub name_quote : ℕ
name_quote = 34

-- the single quote, of texts
abbrev pub text_quote : ℕ
text_quote = 39

abbrev pub name_text : List ℕ → List ℕ
name_text name = quoted name_quote name

abbrev pub literal_text : List ℕ → List ℕ
literal_text text = quoted text_quote text

-- one more byte before what a reader finds
abbrev pub behind : ℕ → Option (List ℕ × List ℕ) → Option (List ℕ × List ℕ)
behind b None = None
behind b (Some found) = Some (b ∷ found.0, found.1)

abbrev mutual
  -- what a reader finds within quotes, and what stands behind them; none where they do not end
  pub found_within : ℕ → List ℕ → Option (List ℕ × List ℕ)
  found_within quote [] = None
  found_within quote (b ∷ bs) = if b == quote then found_at_quote quote bs else behind b (found_within quote bs)

  -- the same behind a quote
  pub found_at_quote : ℕ → List ℕ → Option (List ℕ × List ℕ)
  found_at_quote quote [] = Some ([], [])
  found_at_quote quote (b ∷ bs) = if b == quote then behind quote (found_within quote bs) else Some ([], b ∷ bs)

-- what a reader finds, where a text begins with a quote
abbrev pub found : ℕ → List ℕ → Option (List ℕ × List ℕ)
found quote [] = None
found quote (b ∷ bs) = if b == quote then found_within quote bs else None

abbrev pub begins_with : ℕ → List ℕ → Bool
begins_with quote [] = false
begins_with quote (b ∷ bs) = b == quote

-- a reader finds the text, whatever stands behind it, but for a quote
unfoldable pub IsReadBack : ℕ → List ℕ → Type 0
IsReadBack quote text =
    (rest : List ℕ) → begins_with quote rest ≡ false → found quote (quoted quote text ++ rest) ≡ Some (text, rest)
