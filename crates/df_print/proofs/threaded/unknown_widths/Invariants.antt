use Rattle.std.proofs.Common.{◌≡◌, length}
use Rattle.df_print.proofs.threaded.unknown_widths.Given as goal

abbrev pub invariant-loop : goal.invariant-loop
invariant-loop l = length l.unknown.items ≡ l.counter
