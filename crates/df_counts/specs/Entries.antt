-- The values of counts with the number of their rows, in the order in which they are held.
use Rattle.std.specs.Prelude.{ℕ, List, [], Option, Some, None}
use Rattle.df_value.specs.declared.cell.Cell.{Cell}
use Rattle.df_tree.specs.Leaves.{items_in}
use Rattle.df_counts.specs.declared.counts.Entries.{Entries}

-- none where no sequence was made yet
abbrev pub entries_of : Option Entries → List (Cell × ℕ)
entries_of None = []
entries_of (Some e) = items_in e.seq
