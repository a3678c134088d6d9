-- Runs of blocks, where a block stands in one, and what a leaf keeps of its blocks.
use Rattle.std.specs.Prelude.{◌≡◌, ℕ, ◌+◌, ◌<◌, List, [], ◌∷◌, ◌++◌, ◌-◌, ◌≤◌, Option, Some, None, length, map, slice_index_or}
use Rattle.df_value.specs.declared.cell.Cell.{Cell}
use Rattle.df_column.specs.Blocks.{BlockParts, ends_of, rows_of_blocks}
use Rattle.df_column.specs.Changes.{IsHead}
use Rattle.df_column.specs.MinMaxCells.{cells_at, min_or_max_of}
use Rattle.df_column.specs.Picks.{spliced}
use Rattle.df_column.specs.declared.min_max.MinMax.{MinMax}
use Rattle.df_column.specs.declared.min_max.MinMax.TheVariants as min_max
use Rattle.df_column.specs.declared.tag.Tag.{Tag}

-- each of these blocks has rows
abbrev pub HaveRows : List BlockParts → Type 0
HaveRows [] = Unit {0}
HaveRows (b ∷ bs) = (0 < length b.tags) × HaveRows bs

-- the fields of a run: its blocks, and where each of them ends
pub record IsRun (blocks : List BlockParts) (ends : List ℕ) : Type 0 where
  pub some : HaveRows blocks
  pub ends_are : ends ≡ ends_of 0 blocks

-- the cell of a column of these blocks that no other lies beyond, if one is not null
abbrev pub min_or_max_cell : MinMax → List BlockParts → ℕ → Option Cell
min_or_max_cell e blocks column = min_or_max_of e (cells_at (Some column) (map (λ r. r.1) (rows_of_blocks blocks)))

-- these are those of the first columns; of further ones nothing is said
abbrev pub AreMinMaxCells : MinMax → List BlockParts → List (Option Cell) → Type 0
AreMinMaxCells e blocks cells = (i : ℕ) → i < length cells → slice_index_or cells i None ≡ min_or_max_cell e blocks i

-- what a leaf keeps of its blocks: the tag of the first row, and the least and the greatest cells of some first columns
pub record IsLeaf (blocks : List BlockParts) (first : Tag) (low high : List (Option Cell)) : Type 0 where
  pub first_is : IsHead (rows_of_blocks blocks) first
  pub least : AreMinMaxCells min_max.Min blocks low
  pub greatest : AreMinMaxCells min_max.Max blocks high

-- how many rows these blocks have
abbrev pub rows_in : List BlockParts → ℕ
rows_in blocks = length (rows_of_blocks blocks)

-- the blocks of leaves, in order
abbrev pub blocks_of_leaves : List (List BlockParts) → List BlockParts
blocks_of_leaves [] = []
blocks_of_leaves (l ∷ ls) = l ++ blocks_of_leaves ls

-- the block at an index of these blocks stands in a run of them, at a place
pub record IsRunAt (blocks : List BlockParts) (at : ℕ) (run : List BlockParts) (place : ℕ) : Type 0 where
  pub front : List BlockParts
  pub rest : List BlockParts
  pub cut : blocks ≡ front ++ (run ++ rest)
  pub at_is : at ≡ length front + place
  pub inside : place < length run

-- the last of these ends, 0 where there is none
abbrev pub last_of : List ℕ → ℕ
last_of ends = slice_index_or ends (length ends - 1) 0

-- the new blocks are the old ones, but for those from one index up to another, in whose place stand others
pub record IsSpliceOf (old : List BlockParts) (low high : ℕ) (new : List BlockParts) : Type 0 where
  pub ordered : low ≤ high
  pub in_range : high ≤ length old
  pub others : List BlockParts
  pub is : new ≡ spliced low high others old
