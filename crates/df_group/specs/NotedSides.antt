-- What is noted of an output at one tag: the row that it had there, and the one that it gets.
use Rattle.std.specs.Prelude.{Option, Some, None}
use Rattle.df_column.specs.Changes.{Change}
use Rattle.df_delta.specs.Notes.{new_of, old_of}

-- both sides, or nothing where there is no row
abbrev pub both_sides : {Y : Type 0} → Option Y → Option Y → Option (Change Y)
both_sides None None = None
both_sides None (Some b) = Some (record { old = None; new = Some b })
both_sides (Some a) b = Some (record { old = Some a; new = b })

-- what is noted, with an old row if there is one
abbrev pub noted_old : {Y : Type 0} → Option (Change Y) → Option Y → Option (Change Y)
noted_old c None = c
noted_old c (Some row) = Some (record { old = Some row; new = new_of c })

-- what is noted, with a new row if there is one
abbrev pub noted_new : {Y : Type 0} → Option (Change Y) → Option Y → Option (Change Y)
noted_new c None = c
noted_new c (Some row) = Some (record { old = old_of c; new = Some row })
