-- Counts of work before and after it was done.
use Rattle.std.specs.Prelude.{◌≡◌, ◌≤◌, ◌+◌, ℕ}
use Rattle.df_expr.specs.declared.meter.Meter.{Meter}

-- a meter after n more evaluations, and no other work
abbrev pub with_evals : ℕ → Meter → Meter
with_evals n m = record m { evals = m.evals + n }

-- at most n evaluations were counted, and no other work
abbrev pub CountsAtMost : ℕ → Meter → Meter → Type 0
CountsAtMost most old new = (n : ℕ) × ((n ≤ most) × (new ≡ with_evals n old))
