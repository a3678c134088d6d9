use Rattle.std.proofs.Common.{◌≡◌, [], take}
use Rattle.std.specs.Prelude.{fold}
use Rattle.df_session.specs.Words.{byte_read}
use Rattle.df_session.specs.declared.words.Place.TheVariants as place
use Rattle.df_session.proofs.words.single_blanks.Given as goal

abbrev pub invariant-loop-byte : goal.invariant-loop-byte
invariant-loop-byte l = (l.kept.items, l.place) ≡ fold byte_read ([], place.Between) (take l.byte-index l.line)
