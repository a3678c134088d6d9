use Rattle.std.proofs.Common.{◌≡◌, take, true}
use Rattle.std.specs.Int.{is_in_range}
use Rattle.std.specs.List.{list_all}
use Rattle.df_print.proofs.widths.are_printable.Given as goal

abbrev pub invariant-loop-byte : goal.invariant-loop-byte
invariant-loop-byte l = list_all (is_in_range 0x20 0x7E) (take l.byte-index l.bytes) ≡ true
