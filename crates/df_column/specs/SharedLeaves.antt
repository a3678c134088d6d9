-- What is kept beside the pointer to a leaf that trees share.
use Rattle.std.specs.Prelude.{◌≡◌, List}
use Rattle.df_column.specs.BlockLists.{HaveRows}
use Rattle.df_column.specs.Blocks.{BlockParts, rows_of_blocks}
use Rattle.df_column.specs.Changes.{IsHead}
use Rattle.df_column.specs.LeafTotals.{totals_of}
use Rattle.df_column.specs.declared.leaf_totals.Totals.{Totals}
use Rattle.df_column.specs.declared.tag.Tag.{Tag}

-- of a leaf of these blocks: the tag of the first row, and how many blocks and rows there are; each block has rows
pub record IsSharedLeaf (blocks : List BlockParts) (first : Tag) (totals : Totals) : Type 0 where
  pub first_is : IsHead (rows_of_blocks blocks) first
  pub totals_are : totals ≡ totals_of blocks
  pub some : HaveRows blocks
