use Rattle.std.proofs.Common.{◌≡◌}
use Rattle.df_load_tests.proofs.refusals.accept.Given as goal

-- the reader stays in its hall
abbrev pub invariant-loop-try : goal.invariant-loop-try
invariant-loop-try g l = l.reader.0 ≡ l.initial.reader.0
