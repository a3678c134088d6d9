-- What is counted in blocks that stand in leaves.
use Rattle.std.specs.Prelude.{◌≡◌, ℕ, ◌+◌, ◌-◌, ◌<◌, ◌≤◌, ◌^◌, List, ◌++◌, length, min}
use Rattle.df_column.specs.BlockLists.{rows_in}
use Rattle.df_column.specs.Blocks.{BlockParts}
use Rattle.df_column.specs.declared.leaf_totals.Totals.{Totals}

-- a number, or the greatest one of 64 bits where it is above that
abbrev pub capped : ℕ → ℕ
capped n = min n (2 ^ 64 - 1)

-- how many blocks there are, and how many rows they have
abbrev pub totals_of : List BlockParts → Totals
totals_of blocks = record { blocks = capped (length blocks); rows = capped (rows_in blocks) }

-- of no blocks
abbrev pub no_totals : Totals
no_totals = record { blocks = 0; rows = 0 }

-- of some blocks and of others
abbrev pub both_totals : Totals → Totals → Totals
both_totals s t = record { blocks = capped (s.blocks + t.blocks); rows = capped (s.rows + t.rows) }

-- the row at an index of all rows of these blocks stands in a run of them, and so much stands before the run
pub record IsRunOfRow (blocks : List BlockParts) (row : ℕ) (run : List BlockParts) (before : Totals) : Type 0 where
  pub front : List BlockParts
  pub rest : List BlockParts
  pub cut : blocks ≡ front ++ (run ++ rest)
  pub blocks_are : before.blocks ≡ length front
  pub rows_are : before.rows ≡ rows_in front
  pub begins : rows_in front ≤ row
  pub ends : row < rows_in front + rows_in run
