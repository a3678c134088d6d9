use Rattle.std.proofs.Common.{◌≡◌, ◌++◌, flat_map, take}
use Rattle.df_sql.specs.Quotes.{doubled}
use Rattle.df_sql.proofs.quoting.push_bytes.Given as goal

abbrev pub invariant-loop-byte : goal.invariant-loop-byte
invariant-loop-byte l = l.text.items ≡ l.fn.text.items ++ flat_map (doubled l.quote) (take l.byte-index l.bytes)
