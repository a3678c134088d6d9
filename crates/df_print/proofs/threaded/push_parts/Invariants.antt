use Rattle.std.proofs.Common.{◌≡◌, ◌++◌, flat_map}
use Rattle.df_print.proofs.threaded.push_parts.Given as goal

abbrev pub invariant-loop-part : goal.invariant-loop-part
invariant-loop-part l = l.out.items ≡ l.initial.out.items ++ flat_map (λ part. part.items) l.yielded
