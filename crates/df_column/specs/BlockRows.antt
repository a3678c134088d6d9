-- The rows that a list of blocks gains.
use Rattle.std.specs.Prelude.{◌≡◌, List, ◌++◌, map}
use Rattle.df_value.specs.declared.cell.Cell.{Cell}
use Rattle.df_value.specs.declared.cell.CellType.{CellType}
use Rattle.df_column.specs.Blocks.{AreOfDtypes, BlockParts, rows_of_blocks}
use Rattle.df_column.specs.Changes.{after_changes}
use Rattle.df_column.specs.Tables.{entry_change}
use Rattle.df_column.specs.Tags.{tag_cmp}
use Rattle.df_column.specs.declared.entry.Entry.{Entry}
use Rattle.df_column.specs.declared.tag.Tag.{Tag}

-- the new blocks have these rows behind those of the old ones, and columns of these types if the old ones have them
pub record AddsRows (dtypes : List CellType) (added : List (Tag × List Cell)) (old new : List BlockParts) : Type 0 where
  pub rows : rows_of_blocks new ≡ rows_of_blocks old ++ added
  pub types : AreOfDtypes dtypes old → AreOfDtypes dtypes new

-- the new blocks have, behind the rows of the old ones, those rows of a block after changes that do not stand after
-- these later rows; the rest of the changes is theirs
pub record AddsFirst (dtypes : List CellType) (first later : List (Tag × List Cell)) (entries rest : List Entry)
    (old new : List BlockParts) : Type 0 where
  pub rows : rows_of_blocks new ++ after_changes tag_cmp later (map entry_change rest)
      ≡ rows_of_blocks old ++ after_changes tag_cmp (first ++ later) (map entry_change entries)
  pub types : AreOfDtypes dtypes old → AreOfDtypes dtypes new
