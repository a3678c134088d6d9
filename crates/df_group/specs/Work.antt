-- The work of a live group-by: the groups whose row it finishes.
use Rattle.std.specs.Prelude.{ℕ}
use Rattle.df_expr.specs.declared.meter.Meter.{Meter}

abbrev pub finishes : ℕ → Meter
finishes n = record { evals = 0; finishes = n; probes = 0; windows = 0 }
