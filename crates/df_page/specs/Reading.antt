-- What a reader finds in HTML: tags, the texts between them, and the rows of tables.
use Rattle.std.specs.Prelude.{◌==◌, ◌||◌, ◌&&◌, ◌++◌, not, ℕ, Bool, true, false, List, [], ◌∷◌, Option, Some, None, length, drop, map, bytes_eq, codes, if◌then◌else◌}
use Rattle.std.specs.List.{range_with_len, take_while}
use Rattle.std.specs.Fmt.{signed_decimal}
use Rattle.df_value.specs.declared.cell.Cell.{Cell}
use Rattle.df_value.specs.declared.cell.Cell.TheVariants as cell
use Rattle.df_value.specs.Rows.{cell_at, row_eq}
use Rattle.df_value.specs.Schemas.{Columns}
use Rattle.df_page.specs.Cells.{cells_text, fraction}
use Rattle.df_page.specs.Markup.{Tagged}
use Rattle.df_page.specs.Means.{mean_decimal}

-- the byte that the entity of a name stands for
abbrev pub entity : List ℕ → Option ℕ
entity name =
    if bytes_eq name (codes "amp") then Some 38
    else if bytes_eq name (codes "lt") then Some 60
    else if bytes_eq name (codes "gt") then Some 62
    else if bytes_eq name (codes "quot") then Some 34
    else if bytes_eq name (codes "#13") then Some 13
    else if bytes_eq name (codes "#0") then Some 0
    else None

-- a byte before a text, if there is one
abbrev pub before : Option ℕ → List ℕ → List ℕ
before None text = text
before (Some b) text = b ∷ text

-- what bytes between two tags say, where of an entity this name is read, if one has begun
unfoldable pub text_from : Option (List ℕ) → List ℕ → List ℕ
text_from None [] = []
text_from (Some name) [] = []
text_from None (b ∷ bytes) = if b == 38 then text_from (Some []) bytes else b ∷ text_from None bytes
text_from (Some name) (b ∷ bytes) = if b == 59 then before (entity name) (text_from None bytes) else text_from (Some (name ++ b ∷ [])) bytes

abbrev pub text_read : List ℕ → List ℕ
text_read bytes = text_from None bytes

-- whether an angle bracket or a quote stands nowhere in bytes, and an ampersand only before the name of an entity, where
-- this name is read, if one has begun
unfoldable pub is_text_from : Option (List ℕ) → List ℕ → Bool
is_text_from None [] = true
is_text_from (Some name) [] = false
is_text_from None (b ∷ bytes) =
    if b == 38 then is_text_from (Some []) bytes else not (b == 60) && not (b == 62) && not (b == 34) && is_text_from None bytes
is_text_from (Some name) (b ∷ bytes) =
    if b == 59 then not (length (before (entity name) []) == 0) && is_text_from None bytes else is_text_from (Some (name ++ b ∷ [])) bytes

abbrev pub is_text : List ℕ → Bool
is_text bytes = is_text_from None bytes

-- the tags in bytes, with the texts behind them: inside a tag or behind it, with what is read of both
unfoldable pub tags_from : Bool → List ℕ → List ℕ → List ℕ → List Tagged
tags_from true tag text [] = (tag, text_read text) ∷ []
tags_from false tag text [] = (tag, text_read text) ∷ []
tags_from true tag text (b ∷ bytes) = if b == 62 then tags_from false tag [] bytes else tags_from true (tag ++ b ∷ []) text bytes
tags_from false tag text (b ∷ bytes) =
    if b == 60 then (tag, text_read text) ∷ tags_from true [] [] bytes else tags_from false tag (text ++ b ∷ []) bytes

-- the tags in bytes; what stands before the first one is left out
abbrev pub tags_read : List ℕ → List Tagged
tags_read bytes = drop 1 (tags_from false [] [] bytes)

-- the attributes in a tag, each with the text of its value: inside a value or outside, with what is read of its name and of it
unfoldable pub attributes_from : Bool → List ℕ → List ℕ → List ℕ → List (List ℕ × List ℕ)
attributes_from true name value [] = []
attributes_from false name value [] = []
attributes_from true name value (b ∷ bytes) =
    if b == 34 then (name, text_read value) ∷ attributes_from false [] [] bytes else attributes_from true name (value ++ b ∷ []) bytes
attributes_from false name value (b ∷ bytes) =
    if b == 34 then attributes_from true name [] bytes
    else if b == 32 then attributes_from false [] [] bytes
    else if b == 61 then attributes_from false name value bytes
    else attributes_from false (name ++ b ∷ []) value bytes

-- the attributes of a tag
abbrev pub attributes_read : List ℕ → List (List ℕ × List ℕ)
attributes_read tag = attributes_from false [] [] tag

-- what the tag of a row is to be read as, by what the row was before
abbrev pub shown_mark : Option (Option (List Cell)) → List Cell → List (List ℕ × List ℕ)
shown_mark None row = []
shown_mark (Some None) row = (codes "class", codes "new") ∷ []
shown_mark (Some (Some old)) row = if row_eq old row then [] else (codes "class", codes "changed") ∷ (codes "title", cells_text old) ∷ []

-- a cell as it is read: its text, none where it is marked as null
abbrev pub Shown : Type 0
Shown = Option (List ℕ)

-- the name of a tag
abbrev pub tag_name : List ℕ → List ℕ
tag_name tag = take_while (λ b. not (b == 32)) tag

unfoldable pub is_cell : List ℕ → Bool
is_cell tag = bytes_eq (tag_name tag) (codes "td") || bytes_eq (tag_name tag) (codes "th")

unfoldable pub is_cell_end : List ℕ → Bool
is_cell_end tag = bytes_eq tag (codes "/td") || bytes_eq tag (codes "/th")

unfoldable pub is_row_end : List ℕ → Bool
is_row_end tag = bytes_eq tag (codes "/tr")

unfoldable pub is_null_mark : List ℕ → Bool
is_null_mark tag = bytes_eq tag (codes "span class=\"null\"")

-- a cell with one tag more in it
abbrev pub shown_with : Shown → Tagged → Shown
shown_with None t = None
shown_with (Some text) t = if is_null_mark t.0 then None else Some (text ++ t.1)

-- the rows of all tables, those of names too, where these cells of a row are read, and this one is begun
unfoldable pub rows_from : List Shown → Option Shown → List Tagged → List (List Shown)
rows_from row None [] = []
rows_from row (Some shown) [] = []
rows_from row None (t ∷ tags) =
    if is_cell t.0 then rows_from row (Some (Some t.1)) tags
    else if is_row_end t.0 then row ∷ rows_from [] None tags
    else rows_from row None tags
rows_from row (Some shown) (t ∷ tags) =
    if is_cell_end t.0 then rows_from (row ++ shown ∷ []) None tags else rows_from row (Some (shown_with shown t)) tags

abbrev pub rows_read : List ℕ → List (List Shown)
rows_read bytes = rows_from [] None (tags_read bytes)

-- what a cell is to be read as
abbrev pub shown_cell : Cell → Shown
shown_cell cell.Null = None
shown_cell (cell.Int n) = Some (signed_decimal n)
shown_cell (cell.Wide n) = Some (signed_decimal n)
shown_cell (cell.Text t) = Some t
shown_cell (cell.Bool true) = Some (codes "true")
shown_cell (cell.Bool false) = Some (codes "false")
shown_cell (cell.Frac f) = Some (fraction f ++ mean_decimal f)

-- a row in so many columns; cells that are missing are null
abbrev pub shown_row : ℕ → List Cell → List Shown
shown_row columns row = map (λ at. shown_cell (cell_at (Some at) row)) (range_with_len 0 columns)

-- a table: the names of its columns, and its rows
abbrev pub shown_table : Columns → List (List Cell) → List (List Shown)
shown_table schema rows = map (λ c. Some c.0) schema ∷ map (shown_row (length schema)) rows
