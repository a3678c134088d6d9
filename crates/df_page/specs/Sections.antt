-- A view as a section of a page.
use Rattle.std.specs.Prelude.{◌==◌, ◌++◌, ◌-◌, ℕ, Bool, List, [], ◌∷◌, Option, length, flat_map, nat_lt, slice_get, codes, decimal, if◌then◌else◌}
use Rattle.std.specs.List.{enumerate_from}
use Rattle.df_value.specs.declared.cell.Cell.{Cell}
use Rattle.df_value.specs.declared.cell.CellType.{CellType}
use Rattle.df_value.specs.Schemas.{Columns}
use Rattle.df_page.specs.declared.columns.Column.{Column}
use Rattle.df_page.specs.Bars.{columns_of, is_number}
use Rattle.df_page.specs.Cells.{row_tags}
use Rattle.df_page.specs.Markup.{Tagged, markup}

-- the ending of a word that so many things stand behind
abbrev pub plural : ℕ → List ℕ
plural n = if n == 1 then [] else codes "s"

-- how large a table is
abbrev pub size_text : ℕ → ℕ → List ℕ
size_text rows columns =
    decimal rows ++ (codes " row" ++ (plural rows ++ (codes " x " ++ (decimal columns ++ (codes " column" ++ plural columns)))))

abbrev pub size_tags : ℕ → ℕ → List Tagged
size_tags rows columns = (codes "p", size_text rows columns) ∷ (codes "/p", codes "\n") ∷ []

-- what stands before the names of the columns
abbrev pub opening_tags : List ℕ → ℕ → ℕ → List Tagged
opening_tags name rows columns =
    (codes "section", codes "\n") ∷ (codes "h2", name) ∷ (codes "/h2", codes "\n")
    ∷ (size_tags rows columns
    ++ ((codes "div class=\"table\" tabindex=\"0\"", codes "\n") ∷ (codes "table", codes "\n")
    ∷ (codes "caption", name) ∷ (codes "/caption", codes "\n") ∷ []))

-- the tag of a column's name
abbrev pub name_tag : Bool → List ℕ
name_tag number = if number then codes "th scope=\"col\" class=\"number\"" else codes "th scope=\"col\""

-- a column's name
abbrev pub name_tags : List ℕ × CellType → List Tagged
name_tags c = (name_tag (is_number c.1), []) ∷ (codes "bdi", c.0) ∷ (codes "/bdi", []) ∷ (codes "/th", []) ∷ []

-- the names of the columns
abbrev pub names_tags : Columns → List Tagged
names_tags schema =
    (codes "thead", codes "\n") ∷ (codes "tr", [])
    ∷ (flat_map name_tags schema ++ ((codes "/tr", codes "\n") ∷ (codes "/thead", codes "\n") ∷ []))

-- the row at an index, where the rows were these before, as far as that is known
abbrev pub placed_tags : List Column → List (Option (List Cell)) → ℕ × List Cell → List Tagged
placed_tags columns before row = row_tags columns (slice_get before row.0) row.1

-- the rows
abbrev pub rows_tags : List Column → List (Option (List Cell)) → List (List Cell) → List Tagged
rows_tags columns before rows =
    (codes "tbody", codes "\n")
    ∷ (flat_map (placed_tags columns before) (enumerate_from 0 rows) ++ ((codes "/tbody", codes "\n") ∷ (codes "/table", codes "\n") ∷ (codes "/div", codes "\n") ∷ []))

-- that so many rows more stand behind those
abbrev pub more_text : ℕ → List ℕ
more_text count = codes ".. " ++ (decimal count ++ (codes " more row" ++ plural count))

-- how many rows of the view stand behind those that are given
abbrev pub more_tags : ℕ → ℕ → List Tagged
more_tags given total =
    if nat_lt given total then (codes "p", more_text (total - given)) ∷ (codes "/p", codes "\n") ∷ [] else []

abbrev pub gone_text : ℕ → List ℕ
gone_text count = decimal count ++ codes " of the rows shown before went"

-- how many of the rows that were shown before are gone, if any are
abbrev pub gone_tags : ℕ → List Tagged
gone_tags count = if nat_lt 0 count then (codes "p", gone_text count) ∷ (codes "/p", codes "\n") ∷ [] else []

-- a view of so many rows, of which these are the first; what they were before, as far as that is known; and how many went
abbrev pub section_tags : List ℕ → Columns → List (List Cell) → ℕ → List (Option (List Cell)) → ℕ → List Tagged
section_tags name schema rows total before gone =
    opening_tags name total (length schema)
    ++ (names_tags schema
    ++ (rows_tags (columns_of schema rows) before rows
    ++ (more_tags (length rows) total ++ (gone_tags gone ++ ((codes "/section", codes "\n") ∷ [])))))

-- the section of such a view
unfoldable pub section_of : List ℕ → Columns → List (List Cell) → ℕ → List (Option (List Cell)) → ℕ → List ℕ
section_of name schema rows total before gone = markup (section_tags name schema rows total before gone)
