use Rattle.std.proofs.Common.{◌≡◌, Ok, map}
use Rattle.df_print.proofs.threaded.all_printed.Given as goal

abbrev pub invariant-loop-part : goal.invariant-loop-part
invariant-loop-part l = l.yielded ≡ map (λ part. Ok part) l.printed.items
