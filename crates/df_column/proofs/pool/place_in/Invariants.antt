use Rattle.std.proofs.Common.{◌≡◌}
use Rattle.df_column.specs.Pools.{parts, place_of}
use Rattle.df_column.proofs.PoolLemmas.{place_from}
use Rattle.df_column.proofs.pool.place_in.Given as goal

abbrev pub invariant-loop-place : goal.invariant-loop-place
invariant-loop-place l = place_from l.place l.text (parts 0 l.bytes l.ends) ≡ place_of l.text (parts 0 l.bytes l.ends)
