use Rattle.std.proofs.Common.{take}
use Rattle.std.specs.Prelude.{T}
use Rattle.std.specs.List.{list_all}
use Rattle.df_session.specs.Words.{is_plain_byte}
use Rattle.df_session.proofs.plain_words.are_plain.Given as goal

abbrev pub invariant-loop-byte : goal.invariant-loop-byte
invariant-loop-byte l = T (list_all is_plain_byte (take l.byte-index l.line))
