-- Ranges of row numbers, and the numbers that a list of them stands for.
use Rattle.std.specs.Prelude.{ℕ, Bool, true, ◌+◌, ◌&&◌, ◌||◌, nat_le, nat_lt, List, [], ◌∷◌, filter, flat_map}
use Rattle.std.specs.List.{list_all, range_with_len}
use Rattle.df_frame.specs.declared.ranges.RowRange.{RowRange}
use Rattle.df_frame.specs.Numbers.{are_below}

-- the numbers of a range
abbrev pub range_numbers : RowRange → List ℕ
range_numbers r = range_with_len r.first r.len

-- the numbers of all the ranges
abbrev pub all_numbers : List RowRange → List ℕ
all_numbers rs = flat_map range_numbers rs

-- the ranges that begin below a number, and the others
abbrev pub ranges_below : ℕ → List RowRange → List RowRange
ranges_below first rs = filter (λ r. nat_lt r.first first) rs

abbrev pub ranges_from : ℕ → List RowRange → List RowRange
ranges_from first rs = filter (λ r. nat_le first r.first) rs

-- whether the ranges begin behind a number
abbrev pub begin_behind : ℕ → List RowRange → Bool
begin_behind n [] = true
begin_behind n (r ∷ rs) = nat_lt n r.first

-- whether ranges keep apart: each has a number, and between two of them there is one that is in neither. So ranges
-- that meet are one
abbrev pub are_apart : List RowRange → Bool
are_apart [] = true
are_apart (r ∷ rs) = nat_lt 0 r.len && (begin_behind (r.first + r.len) rs && are_apart rs)

-- whether numbers are below each of the ranges that begin at a number or above
abbrev pub are_below_from : ℕ → List RowRange → List ℕ → Bool
are_below_from first rs ns = list_all (λ r. nat_lt r.first first || are_below r.first ns) rs
