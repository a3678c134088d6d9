use Rattle.std.proofs.Common.{◌≡◌, take}
use Rattle.df_document.specs.Sources.{pieces_of_sources}
use Rattle.df_document.proofs.pieces.all_pieces.Given as goal

abbrev pub invariant-loop-source : goal.invariant-loop-source
invariant-loop-source l = l.all.items ≡ pieces_of_sources (take l.source-index l.sources)
