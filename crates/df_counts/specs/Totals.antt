-- Numbers of values and of the rows that have them, modulo 2^64.
use Rattle.std.specs.Prelude.{ℕ, ◌+◌, ◌%◌, ◌^◌}
use Rattle.df_value.specs.declared.cell.Cell.{Cell}
use Rattle.df_counts.specs.declared.totals.Totals.{Totals}

-- of no value
abbrev pub no_totals : Totals
no_totals = record { values = 0; rows = 0 }

-- of some values and of others
abbrev pub sum_of : Totals → Totals → Totals
sum_of a b = record { values = (a.values + b.values) % 2 ^ 64; rows = (a.rows + b.rows) % 2 ^ 64 }

-- of one value with its count
abbrev pub totals_of : Cell × ℕ → Totals
totals_of e = record { values = 1; rows = e.1 }
