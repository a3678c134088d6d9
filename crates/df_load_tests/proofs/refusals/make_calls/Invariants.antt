use Rattle.std.proofs.Common.{◌≡◌}
use Rattle.df_load_tests.proofs.refusals.make_calls.Given as goal

-- the reader stays in its hall
abbrev pub invariant-loop-at : goal.invariant-loop-at
invariant-loop-at g l = l.reader.0 ≡ l.initial.reader.0
