-- The blocks of a table, and where its rows stand in them.
use Rattle.std.specs.Prelude.{◌≡◌, ℕ, ◌+◌, ◌<◌, ◌≤◌, ◌++◌, ◌∷◌, [], T, List, length, not, slice_index_or}
use Rattle.std.specs.FinMap.{is_sorted}
use Rattle.std.specs.FinMap.Entries.{below_all}
use Rattle.std.specs.Ordering.{is_gt}
use Rattle.df_value.specs.declared.cell.Cell.{Cell}
use Rattle.df_value.specs.declared.cell.CellType.{CellType}
use Rattle.df_column.specs.Blocks.{AreOfDtypes, BlockParts, block_rows, ends_of, rows_of_blocks}
use Rattle.df_column.specs.Changes.{IsHead, all_under}
use Rattle.df_column.specs.Pools.{start_at}
use Rattle.df_column.specs.Tables.{dtypes_of}
use Rattle.df_column.specs.Tags.{tag_cmp}
use Rattle.df_column.specs.declared.tag.Tag.{Tag}

-- rows by rising tags, in columns of the schema's types
pub record IsTable (schema : List (List ℕ × CellType)) (blocks : List BlockParts) : Type 0 where
  pub sorted : T (is_sorted tag_cmp (rows_of_blocks blocks))
  pub types : AreOfDtypes (dtypes_of schema) blocks

-- the row at this index of all rows is the one at an index of one block
pub record IsSpot (blocks : List BlockParts) (at block row : ℕ) : Type 0 where
  pub in_blocks : block < length blocks
  pub in_block : (b : BlockParts) → row < length (slice_index_or blocks block b).tags
  pub here : (b : BlockParts) (d : Tag × List Cell) →
      slice_index_or (rows_of_blocks blocks) at d ≡ slice_index_or (block_rows (slice_index_or blocks block b)) row d
  -- and so with the rows behind it, as far as the block goes
  pub along : (b : BlockParts) (d : Tag × List Cell) (i : ℕ) → row + i < length (slice_index_or blocks block b).tags →
      slice_index_or (rows_of_blocks blocks) (at + i) d ≡ slice_index_or (block_rows (slice_index_or blocks block b)) (row + i) d

-- so many of the ends are at most this number
pub record IsEndCount (ends : List ℕ) (at count : ℕ) : Type 0 where
  pub in_range : count ≤ length ends
  pub before : (k : ℕ) (d : ℕ) → k < count → slice_index_or ends k d ≤ at
  pub after : (k : ℕ) (d : ℕ) → count ≤ k → k < length ends → at < slice_index_or ends k d

-- a row with this tag can stand only in a run of these blocks, before which there are so many rows: those have lesser
-- tags, and those behind the run greater ones
pub record IsRunOfTag (blocks : List BlockParts) (tag : Tag) (run : List BlockParts) (before : ℕ) : Type 0 where
  pub front : List BlockParts
  pub rest : List BlockParts
  pub cut : blocks ≡ front ++ (run ++ rest)
  pub rows_are : before ≡ length (rows_of_blocks front)
  pub below : T (all_under tag_cmp tag (rows_of_blocks front))
  pub above : T (below_all tag_cmp tag (rows_of_blocks rest))
  -- the run has a first row, whose tag is not above this one
  pub first : Tag
  pub head : IsHead (rows_of_blocks run) first
  pub reached : T (not (is_gt (tag_cmp first tag)))

-- a row with this tag can stand only in the block at this index, which is a run of its own: rows before it have lesser
-- tags, rows behind it greater ones
pub record IsBlockOfTag (blocks : List BlockParts) (tag : Tag) (block : ℕ) : Type 0 where
  pub in_blocks : block < length blocks
  pub run : (d : BlockParts) →
      IsRunOfTag blocks tag (slice_index_or blocks block d ∷ []) (start_at 0 (ends_of 0 blocks) block)
