use Rattle.std.proofs.Common.{◌≤◌}
use Rattle.df_session.proofs.words.blanks.Given as goal

abbrev pub invariant-loop-byte : goal.invariant-loop-byte
invariant-loop-byte l = l.count ≤ l.byte-index
