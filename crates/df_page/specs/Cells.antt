-- Cells and rows of a table as tags.
use Rattle.std.specs.Prelude.{◌++◌, ℕ, ℤ, Bool, true, false, List, [], ◌∷◌, Option, Some, None, flat_map, codes, if◌then◌else◌}
use Rattle.std.specs.Fmt.{signed_decimal}
use Rattle.std.specs.List.{enumerate_from}
use Rattle.df_value.specs.declared.cell.Cell.{Cell}
use Rattle.df_value.specs.declared.cell.Cell.TheVariants as cell
use Rattle.df_print.specs.Printed.{cell_text}
use Rattle.df_value.specs.Rows.{cell_at, row_eq}
use Rattle.df_page.specs.declared.columns.Column.{Column}
use Rattle.df_page.specs.Bars.{bar_tag}
use Rattle.df_page.specs.Markup.{Tagged, escaped}
use Rattle.df_page.specs.Means.{mean_decimal}

-- the tag of a cell without a bar
abbrev pub plain_tag : Bool → List ℕ
plain_tag true = codes "td class=\"number\""
plain_tag false = codes "td"

-- null
abbrev pub null_tags : Bool → List Tagged
null_tags number = (plain_tag number, []) ∷ (codes "span class=\"null\"", codes "null") ∷ (codes "/span", []) ∷ (codes "/td", []) ∷ []

-- a text, apart from what stands beside it where one of both is read from right to left
abbrev pub text_tags : List ℕ → List Tagged
text_tags t = (codes "td", []) ∷ (codes "bdi", t) ∷ (codes "/bdi", []) ∷ (codes "/td", []) ∷ []

-- a mean as a fraction, with a space behind it
abbrev pub fraction : ℤ × ℤ → List ℕ
fraction mean = signed_decimal mean.0 ++ (codes "/" ++ (signed_decimal mean.1 ++ codes " "))

-- a mean, and behind it the decimal
abbrev pub mean_tags : ℤ × ℤ → List Tagged
mean_tags mean =
    (codes "td class=\"mean\"", fraction mean)
    ∷ (codes "span class=\"decimal\"", mean_decimal mean) ∷ (codes "/span", []) ∷ (codes "/td", []) ∷ []

-- a whole number
abbrev pub number_tags : Column → ℤ → List Tagged
number_tags column n = (bar_tag column n, signed_decimal n) ∷ (codes "/td", []) ∷ []

-- a cell
abbrev pub cell_tags : Column → Cell → List Tagged
cell_tags column cell.Null = null_tags column.is_number
cell_tags column (cell.Int n) = number_tags column n
cell_tags column (cell.Wide n) = number_tags column n
cell_tags column (cell.Text t) = text_tags t
cell_tags column (cell.Bool true) = (codes "td", codes "true") ∷ (codes "/td", []) ∷ []
cell_tags column (cell.Bool false) = (codes "td", codes "false") ∷ (codes "/td", []) ∷ []
cell_tags column (cell.Frac f) = mean_tags f

-- the cells of a row, one in each column; those that are missing are null
abbrev pub cells_tags : List Column → List Cell → List Tagged
cells_tags columns row = flat_map (λ c. cell_tags c.1 (cell_at (Some c.0) row)) (enumerate_from 0 columns)

-- the cells of a row in the words of a printed table, one behind another
abbrev pub cells_text : List Cell → List ℕ
cells_text [] = []
cells_text (v ∷ row) = cell_text v ++ flat_map (λ w. codes ", " ++ cell_text w) row

-- the tag of a row that had these cells
abbrev pub changed_tag : List Cell → List ℕ
changed_tag old = codes "tr class=\"changed\" title=\"" ++ (escaped (cells_text old) ++ codes "\"")

-- The tag of a row. What it was before is not known, or there was none, which makes it new, or it had these cells.
abbrev pub row_tag : Option (Option (List Cell)) → List Cell → List ℕ
row_tag None row = codes "tr"
row_tag (Some None) row = codes "tr class=\"new\""
row_tag (Some (Some old)) row = if row_eq old row then codes "tr" else changed_tag old

-- a row, by what it was before
abbrev pub row_tags : List Column → Option (Option (List Cell)) → List Cell → List Tagged
row_tags columns before row = (row_tag before row, []) ∷ (cells_tags columns row ++ ((codes "/tr", codes "\n") ∷ []))
