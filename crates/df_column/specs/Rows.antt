-- The rows of a block: a tag and, in each column, a cell for each of them.
use Rattle.std.specs.Prelude.{ℕ, Bool, true, T, List, [], ◌∷◌, ◌+◌, map, length, slice_index_or, ◌==◌, Option, Some, None}
use Rattle.std.specs.Cmp.Lexicographic.{pointwise}
use Rattle.std.specs.List.{list_all}
use Rattle.std.specs.FinMap.{is_sorted}
use Rattle.df_value.specs.Cells.{fits_dtype}
use Rattle.df_value.specs.declared.cell.Cell.{Cell}
use Rattle.df_value.specs.declared.cell.Cell.TheVariants as cell
use Rattle.df_value.specs.declared.cell.CellType.{CellType}
use Rattle.df_column.specs.Picks.{picked_cells, spliced}
use Rattle.df_column.specs.declared.picks.Origin.{Origin}
use Rattle.df_column.specs.declared.picks.Origin.TheVariants.{Old, New}
use Rattle.df_column.specs.declared.picks.Pick.{Pick}
use Rattle.df_column.specs.declared.entry.Entry.{Entry}
use Rattle.df_column.specs.declared.tag.Tag.{Tag}
use Rattle.df_column.specs.Tags.{tag_cmp}

-- the first cell of a column, null if there is none, and the cells after it
abbrev pub head_cell : List Cell → Cell
head_cell [] = cell.Null
head_cell (c ∷ cs) = c

abbrev pub later_cells : List Cell → List Cell
later_cells [] = []
later_cells (c ∷ cs) = cs

-- the rows with their tags: the first has the first cell of each column
abbrev pub tagged_rows : List Tag → List (List Cell) → List (Tag × List Cell)
tagged_rows [] columns = []
tagged_rows (t ∷ ts) columns = (t, map head_cell columns) ∷ tagged_rows ts (map later_cells columns)

-- the row at this index of columns with these cells
abbrev pub row_at : List (List Cell) → ℕ → List Cell
row_at columns i = map (λ c. slice_index_or c i cell.Null) columns

-- each column has n cells
abbrev pub are_even : ℕ → List (List Cell) → Bool
are_even n columns = list_all (λ c. length c == n) columns

-- a picked row, where the old columns have these cells
abbrev pub origin_row : List (List Cell) → Origin → List Cell
origin_row columns (Old i) = row_at columns i
origin_row columns (New row) = row.now

-- the picked rows with their tags
abbrev pub picked_rows : List (List Cell) → List Pick → List (Tag × List Cell)
picked_rows columns picks = map (λ p. (p.tag, origin_row columns p.origin)) picks

-- whether a row has a cell for each of these types, and each fits
abbrev pub is_row : List CellType → List Cell → Bool
is_row dtypes row = pointwise fits_dtype dtypes row

-- whether a picked row is an old one, or a row of these types
abbrev pub is_new_row : List CellType → Origin → Bool
is_new_row dtypes (Old i) = true
is_new_row dtypes (New row) = is_row dtypes row.now

-- all new rows are rows of these types
abbrev pub AreRows : List CellType → List Pick → Type 0
AreRows dtypes picks = T (list_all (λ p. is_new_row dtypes p.origin) picks)

-- the columns with the picked rows in place of those from one index up to another, from the column at this index on
abbrev pub spliced_columns : ℕ → ℕ → ℕ → List (List Cell) → List Pick → List (List Cell)
spliced_columns low high at [] picks = []
spliced_columns low high at (c ∷ cs) picks =
    spliced low high (picked_cells c at picks) c ∷ spliced_columns low high (at + 1) cs picks

-- the tags rise
abbrev pub AreRisingTags : List Tag → Type 0
AreRisingTags ts = T (is_sorted tag_cmp (tagged_rows ts []))

-- whether there is no new row, or one of these types
abbrev pub is_row_if_any : List CellType → Option (List Cell) → Bool
is_row_if_any dtypes None = true
is_row_if_any dtypes (Some row) = is_row dtypes row

-- all new rows are rows of these types
abbrev pub AreNewRows : List CellType → List Entry → Type 0
AreNewRows dtypes entries = T (list_all (λ e. is_row_if_any dtypes e.new) entries)
