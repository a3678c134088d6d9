-- What of a frame refuses a change of it: numbers that were accepted before, numbers that stand twice, and numbers of
-- which there is no row. That a number is accepted once at most is this project's own rule.
use Rattle.std.specs.Prelude.{ℕ, Bool, not, ◌+◌, nat_lt, List, [], ◌∷◌, ◌++◌, length, find, Option, Some, None, if◌then◌else◌}
use Rattle.std.specs.List.{range_with_len}
use Rattle.df_value.specs.Chunks.{ChunkParts}
use Rattle.df_value.specs.Limits as limits
use Rattle.df_frame.specs.declared.state.FrameState.{FrameState}
use Rattle.df_frame.specs.Frames.{has_row}
use Rattle.df_frame.specs.Numbers.{has_number}

-- the first number of the list that stands earlier, where those seen stand before the list
abbrev pub doubled_number_after : List ℕ → List ℕ → Option ℕ
doubled_number_after seen [] = None
doubled_number_after seen (n ∷ ns) = if has_number seen n then Some n else doubled_number_after (seen ++ n ∷ []) ns

-- the least of so many numbers from this one on that was accepted before, also where its row was deleted
abbrev pub first_accepted : FrameState → ℕ → ℕ → Option ℕ
first_accepted f first count = find (λ n. has_number f.accepted n) (range_with_len first count)

-- the least number of a chunk that was accepted before
abbrev pub first_taken : FrameState → ChunkParts → Option ℕ
first_taken f c = first_accepted f c.first (length c.rows)

-- whether a frame would have accepted more than 1,048,576 numbers with so many more
abbrev pub has_no_room : FrameState → ℕ → Bool
has_no_room f count = nat_lt limits.most_rows_of_frame (length f.accepted + count)

-- whether it would have with a chunk
abbrev pub would_be_full : FrameState → ChunkParts → Bool
would_be_full f c = has_no_room f (length c.rows)

-- the first number of the list of which there is no row
abbrev pub first_not_live : FrameState → List ℕ → Option ℕ
first_not_live f ns = find (λ n. not (has_row f n)) ns
