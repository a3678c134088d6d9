-- The distinct texts of a pool, and where each stands.
use Rattle.std.specs.Prelude.{◌≡◌, ℕ, ◌≤◌, ◌+◌, ◌==◌, T, List, [], ◌∷◌, ◌++◌, Option, Some, None, cond, length, slice_range, slice_index_or}
use Rattle.std.specs.List.{list_all}
use Rattle.std.specs.Option.{option_map}
use Rattle.std.specs.Str.{is_utf8}
use Rattle.std.specs.Cmp.Lexicographic.{pointwise}

-- the place of a text, if it is there
abbrev pub place_of : List ℕ → List (List ℕ) → Option ℕ
place_of t [] = None
place_of t (u ∷ us) = cond (pointwise ◌==◌ u t) (Some 0) (option_map (λ n. n + 1) (place_of t us))

-- the texts, with this one at the end where it had no place
abbrev pub with_text : Option ℕ → List (List ℕ) → List ℕ → List (List ℕ)
with_text None texts t = texts ++ t ∷ []
with_text (Some n) texts t = texts

-- the place, or the next one behind all texts
abbrev pub place_or_end : Option ℕ → List (List ℕ) → ℕ
place_or_end None texts = length texts
place_or_end (Some n) texts = n

-- the parts of the bytes from this start on, which end at these ends
abbrev pub parts : ℕ → List ℕ → List ℕ → List (List ℕ)
parts start bytes [] = []
parts start bytes (e ∷ ends) = slice_range bytes start e ∷ parts e bytes ends

-- the ends rise, and the last is the length
abbrev pub IsRising : ℕ → ℕ → List ℕ → Type 0
IsRising start len [] = start ≡ len
IsRising start len (e ∷ ends) = (start ≤ e) × IsRising e len ends

-- where the part at this place begins
abbrev pub start_at : ℕ → List ℕ → ℕ → ℕ
start_at start ends place = slice_index_or (start ∷ ends) place 0

-- the fields of a pool: its texts one behind the other, and where each ends
pub record IsPool (bytes ends : List ℕ) : Type 0 where
  pub rising : IsRising 0 (length bytes) ends
  pub utf8 : T (list_all is_utf8 (parts 0 bytes ends))
