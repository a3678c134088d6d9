-- The limits of plans, this project's own choice.
use Rattle.std.specs.Prelude.{ℕ}

-- a plan has at most so many levels
abbrev pub most_plan_levels : ℕ
most_plan_levels = 12

-- a plan has at most so many scans
abbrev pub most_scans : ℕ
most_scans = 3

-- a rolling window has at most so many rows
abbrev pub most_rows_of_window : ℕ
most_rows_of_window = 65536
