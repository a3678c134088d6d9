use Rattle.std.proofs.Common.{◌≡◌, string_bytes, flat_map}
use Rattle.df_print.specs.Printed.{escaped_char}
use Rattle.df_print.proofs.escapes.escaped.Given as goal

abbrev pub invariant-loop-c : goal.invariant-loop-c
invariant-loop-c l = string_bytes l.out ≡ flat_map escaped_char l.yielded
