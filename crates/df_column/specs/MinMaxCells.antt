-- The least and the greatest cell of a list, and the rows whose cell at an index is above a value. A null cell is none
-- of these.
use Rattle.std.specs.Prelude.{ℕ, Bool, true, false, ◌&&◌, not, cond, List, Option, Some, None, filter, find, map}
use Rattle.std.specs.List.{list_all}
use Rattle.std.specs.Ordering.{is_lt, is_gt}
use Rattle.df_value.specs.CellOrder.{cell_cmp}
use Rattle.df_value.specs.Rows.{cell_at}
use Rattle.df_value.specs.declared.cell.Cell.{Cell}
use Rattle.df_value.specs.declared.cell.Cell.TheVariants as cell
use Rattle.df_column.specs.declared.min_max.MinMax.{MinMax}
use Rattle.df_column.specs.declared.min_max.MinMax.TheVariants as min_max
use Rattle.df_column.specs.declared.tag.Tag.{Tag}

-- whether a cell is null
abbrev pub is_null : Cell → Bool
is_null cell.Null = true
is_null _ = false

-- the cells that are not null
abbrev pub non_null : List Cell → List Cell
non_null cells = filter (λ c. not (is_null c)) cells

-- the cells of the rows at an index
abbrev pub cells_at : Option ℕ → List (List Cell) → List Cell
cells_at index rows = map (cell_at index) rows

-- whether a cell lies beyond another: below it, or above it
abbrev pub is_beyond : MinMax → Cell → Cell → Bool
is_beyond min_max.Min a b = is_lt (cell_cmp a b)
is_beyond min_max.Max a b = is_gt (cell_cmp a b)

-- the cell among these that none of them lies beyond
abbrev pub min_or_max_in : MinMax → List Cell → Option Cell
min_or_max_in e cells = find (λ c. list_all (λ d. not (is_beyond e d c)) cells) cells

-- the same of the cells that are not null: none where all are null
abbrev pub min_or_max_of : MinMax → List Cell → Option Cell
min_or_max_of e cells = min_or_max_in e (non_null cells)

-- the least and the greatest of the cells that are not null
abbrev pub least_of : List Cell → Option Cell
least_of cells = min_or_max_of min_max.Min cells

abbrev pub greatest_of : List Cell → Option Cell
greatest_of cells = min_or_max_of min_max.Max cells

-- of two cells, the second where it lies beyond the first; else the first, or the one that is there
abbrev pub min_or_max_with : MinMax → Option Cell → Option Cell → Option Cell
min_or_max_with e None b = b
min_or_max_with e (Some a) None = Some a
min_or_max_with e (Some a) (Some b) = Some (cond (is_beyond e b a) b a)

-- whether a cell is not null and above a value
abbrev pub is_above : Cell → Cell → Bool
is_above value c = not (is_null c) && is_lt (cell_cmp value c)

-- the tags of the rows whose cell at an index is such a cell
abbrev pub tags_above : Option ℕ → Cell → List (Tag × List Cell) → List Tag
tags_above index value rows = map (λ r. r.0) (filter (λ r. is_above value (cell_at index r.1)) rows)

-- whether a cell is not null and lies beyond the other one, if there is one
abbrev pub is_better : MinMax → Option Cell → Cell → Bool
is_better e None c = not (is_null c)
is_better e (Some a) c = not (is_null c) && is_beyond e c a

-- whether a cell lies beyond the other one, if there is one
abbrev pub is_beyond_best : MinMax → Option Cell → Cell → Bool
is_beyond_best e None c = true
is_beyond_best e (Some a) c = is_beyond e c a
