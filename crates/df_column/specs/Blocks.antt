-- Blocks: some rows in columns, and the rows of blocks one behind the other.
use Rattle.std.specs.Prelude.{◌≡◌, ℕ, ◌+◌, ◌<◌, ◌≤◌, T, List, [], ◌∷◌, ◌++◌, map, length}
use Rattle.df_value.specs.declared.cell.Cell.{Cell}
use Rattle.df_value.specs.declared.cell.CellType.{CellType}
use Rattle.df_column.specs.Columns.{column_cells, dtype_of_column}
use Rattle.df_column.specs.Rows.{are_even, tagged_rows}
use Rattle.df_column.specs.Sizes.{most_rows}
use Rattle.df_column.specs.declared.column.Column.{Column}
use Rattle.df_column.specs.declared.tag.Tag.{Tag}

-- the tags of a block, and its columns
pub record BlockParts : Type 0 where
  pub tags : List Tag
  pub columns : List Column

-- from 1 to most_rows, each with a cell in each column
pub record IsBlock (tags : List Tag) (columns : List Column) : Type 0 where
  pub some : 0 < length tags
  pub few : length tags ≤ most_rows
  pub even : T (are_even (length tags) (map column_cells columns))

-- the rows of a block with their tags
abbrev pub block_rows : BlockParts → List (Tag × List Cell)
block_rows b = tagged_rows b.tags (map column_cells b.columns)

-- the rows of these blocks, in order
abbrev pub rows_of_blocks : List BlockParts → List (Tag × List Cell)
rows_of_blocks [] = []
rows_of_blocks (b ∷ bs) = block_rows b ++ rows_of_blocks bs

-- each of these blocks has columns of these types
abbrev pub AreOfDtypes : List CellType → List BlockParts → Type 0
AreOfDtypes dtypes [] = Unit {0}
AreOfDtypes dtypes (b ∷ bs) = (map dtype_of_column b.columns ≡ dtypes) × AreOfDtypes dtypes bs

-- how many rows these blocks have up to the end of each, where n rows stand before them
abbrev pub ends_of : ℕ → List BlockParts → List ℕ
ends_of n [] = []
ends_of n (b ∷ bs) = (n + length b.tags) ∷ ends_of (n + length b.tags) bs
