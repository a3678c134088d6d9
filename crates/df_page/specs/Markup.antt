-- HTML as tags and the texts behind them, in the syntax of the HTML standard of WHATWG.
use Rattle.std.specs.Prelude.{◌==◌, ◌++◌, ℕ, List, [], ◌∷◌, flat_map, codes, if◌then◌else◌}

-- a tag, without its angle brackets, and the text behind it up to the next tag
abbrev pub Tagged : Type 0
Tagged = List ℕ × List ℕ

-- a byte of a text: those that would begin or end a tag, an entity or an attribute's value, and those that a browser
-- does not take as they are, are entities
abbrev pub escaped_byte : ℕ → List ℕ
escaped_byte b =
    if b == 38 then codes "&amp;"
    else if b == 60 then codes "&lt;"
    else if b == 62 then codes "&gt;"
    else if b == 34 then codes "&quot;"
    else if b == 13 then codes "&#13;"
    else if b == 0 then codes "&#0;"
    else b ∷ []

-- a text
unfoldable pub escaped : List ℕ → List ℕ
escaped text = flat_map escaped_byte text

-- a tag and its text
unfoldable pub tag_bytes : Tagged → List ℕ
tag_bytes t = codes "<" ++ (t.0 ++ (codes ">" ++ escaped t.1))

-- tags and their texts
unfoldable pub markup : List Tagged → List ℕ
markup tags = flat_map tag_bytes tags
