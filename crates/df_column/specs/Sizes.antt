-- How large blocks are.
use Rattle.std.specs.Prelude.{ℕ}

-- the most rows of a block
abbrev pub most_rows : ℕ
most_rows = 128
