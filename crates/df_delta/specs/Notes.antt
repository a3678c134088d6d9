-- Notes of an operator: a change for each key at which its output may differ, idle ones among them.
use Rattle.std.specs.Prelude.{◌≡◌, Bool, true, false, Option, Some, None}
use Rattle.std.specs.declared.cmp.Ordering.{Ordering}
use Rattle.std.specs.FinMap.{FinMap}
use Rattle.df_column.specs.Changes.{Change}
use Rattle.df_delta.specs.Collected.{collected}
use Rattle.df_delta.specs.ChangeOf.{change_of}

-- what was noted at a key at which a stood and b comes to stand: both, or nothing where they are equal
abbrev pub IsNote : {X : Type 0} → Option (Change X) → Option X → Option X → Type 0
IsNote None a b = a ≡ b
IsNote (Some c) a b = (c.old ≡ a) × (c.new ≡ b)

-- the notes without those that are idle
abbrev pub leaned : {K Y : Type 0} {R : K → K → Ordering} → (Option Y → Option Y → Bool) → FinMap R (Change Y) → FinMap R (Change Y)
leaned same notes = collected (λ _ c. change_of same c.old c.new) notes

-- the old row of what was noted, and the new one
abbrev pub old_of : {X : Type 0} → Option (Change X) → Option X
old_of None = None
old_of (Some c) = c.old

abbrev pub new_of : {X : Type 0} → Option (Change X) → Option X
new_of None = None
new_of (Some c) = c.new

-- the change where a row goes, or else comes
abbrev pub moved : {X : Type 0} → Bool → X → Change X
moved true row = record { old = Some row; new = None }
moved false row = record { old = None; new = Some row }

-- one change after another: what stood before the first, and what stands after the last
abbrev pub then_change : {X : Type 0} → Option (Change X) → Change X → Change X
then_change None d = d
then_change (Some c) d = record { old = c.old; new = d.new }
