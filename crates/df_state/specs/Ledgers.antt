-- The parts of a ledger: the shares of it that desks hold, which are this project's own.
use Rattle.std.specs.Prelude.{ℕ}

-- the parts of a whole ledger
abbrev pub parts_of_ledger : ℕ
parts_of_ledger = 524288

-- those of the first desk of a frame
abbrev pub parts_of_first_desk : ℕ
parts_of_first_desk = 65536
