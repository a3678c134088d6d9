-- The change between two values, and what an operator that looks at one row at a time makes of a change.
use Rattle.std.specs.Prelude.{Bool, cond, Option, Some, None}
use Rattle.std.specs.Option.{option_and_then}
use Rattle.df_column.specs.Changes.{Change}

module _ {Y : Type 0} (same : Option Y → Option Y → Bool) where
  -- the change from a to b, or none where they are equal
  abbrev pub change_of : Option Y → Option Y → Option (Change Y)
  change_of a b = cond (same a b) None (Some (record { old = a; new = b }))

  -- the change of what f makes of each side
  abbrev pub row_wise_change : {X : Type 0} → (X → Option Y) → Change X → Option (Change Y)
  row_wise_change f c = change_of (option_and_then f c.old) (option_and_then f c.new)
