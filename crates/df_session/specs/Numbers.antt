-- The numbers at which further rows of frames begin: behind the highest number that the frame ever accepted, also where its row
-- was deleted.
use Rattle.std.specs.Prelude.{◌+◌, ℕ, List, [], ◌∷◌, Option, Some, None, Result, Ok, Err, max}
use Rattle.df_state.specs.Changes.{change_at}
use Rattle.df_state.specs.declared.change.Change.{Change}
use Rattle.df_state.specs.declared.change.Change.TheVariants.{Append, Delete, DropView, Register, Replace}
use Rattle.df_frame.specs.Frames.{chunk_numbers}

-- the number behind the highest of these, 0 where there is none
abbrev pub number_behind : List ℕ → ℕ
number_behind [] = 0
number_behind (n ∷ ns) = max (n + 1) (number_behind ns)

-- behind which number the rows of a change end, and in which frame
abbrev pub end_of : Change → Option (ℕ × ℕ)
end_of (Append at chunk) = Some (at, number_behind (chunk_numbers chunk))
end_of (Delete at ns) = None
end_of (Replace at rows) = None
end_of (Register name plan) = None
end_of (DropView name) = None

-- the numbers once rows that end so were accepted
abbrev pub noted : Option (ℕ × ℕ) → List ℕ → List ℕ
noted (Some end) numbers = change_at end.0 (max end.1) numbers
noted None numbers = numbers

-- the end of a change's rows, if it was made
abbrev pub end_if_made : {T E : Type 0} → Result T E → Option (ℕ × ℕ) → Option (ℕ × ℕ)
end_if_made (Ok made) end = end
end_if_made (Err fault) end = None
