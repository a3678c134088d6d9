-- Rows and changes of one key among those of all keys.
use Rattle.std.specs.Prelude.{Bool, cond, List, [], Option, Some, None, map}
use Rattle.std.specs.Option.{option_and_then}
use Rattle.std.specs.declared.cmp.Ordering.{Ordering}
use Rattle.std.specs.FinMap.{FinMap}
use Rattle.df_value.specs.declared.cell.Cell.{Cell}
use Rattle.df_value.specs.Rows.{row_eq}
use Rattle.df_column.specs.Changes.{Change}
use Rattle.df_column.specs.Tables.{entry_change}
use Rattle.df_column.specs.declared.tag.Tag.{Tag}
use Rattle.df_delta.specs.ChangeOf.{row_wise_change}
use Rattle.df_delta.specs.Collected.{collected}
use Rattle.df_delta.specs.Deltas.{Changes}
use Rattle.df_delta.specs.SameRows.{same_row}
use Rattle.df_delta.specs.declared.keyed.KeyChanges.{KeyChanges}

-- the row, where it has the key
abbrev pub of_key : {X G : Type 0} → (X → G) → (G → G → Bool) → G → X → Option X
of_key key same_key k x = cond (same_key (key x) k) (Some x) None

-- the rows of the key, at their tags
abbrev pub members : {K X G : Type 0} {R : K → K → Ordering} → (X → G) → (G → G → Bool) → G → FinMap R X → FinMap R X
members key same_key k t = collected (λ _. of_key key same_key k) t

-- the row, where there is one and it has the key
abbrev pub row_of_key : (List Cell → List Cell) → List Cell → Option (List Cell) → Option (List Cell)
row_of_key key k row = option_and_then (of_key key row_eq k) row

-- what a change is to the rows of the key: a row that leaves the key goes, and one that joins it comes
abbrev pub keyed_change : (List Cell → List Cell) → List Cell → Change (List Cell) → Option (Change (List Cell))
keyed_change key k c = row_wise_change same_row (of_key key row_eq k) c

-- the changes of the rows of the key
abbrev pub keyed_changes : (List Cell → List Cell) → List Cell → Changes → Changes
keyed_changes key k d = collected (λ _. keyed_change key k) d

-- the changes that are kept for a key
abbrev pub kept_changes : Option KeyChanges → List (Tag × Change (List Cell))
kept_changes None = []
kept_changes (Some changes) = map entry_change changes.entries.items
